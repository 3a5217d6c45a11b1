use Rattle.std.proofs.Common.{◌≡◌, ℤ, ℕ, pos, List, length, Ok, sym, ap, ◌∙◌}
use Rattle.file.specs.declared.kinds.FamilyKind.TheVariants.{Squares, Linear}
use Rattle.file.specs.Files.{counted, reading}
use Rattle.file.specs.Kinds.{family_number}
use Rattle.file.specs.Records.{is, cell}
use Rattle.file.specs.declared.records.Record.{Record}
use Rattle.file.specs.declared.records.Records.{Records}
use Rattle.file.specs.Walks.{Names, words_of}
use Rattle.file.specs.Words.{word}
use Rattle.file.proofs.Bytes.{read_back}
use Rattle.file.proofs.Exits.{mapped_stopped, read_length, read_first, read_second, read_squares, read_linear, read_unknown}
use Rattle.file.proofs.Known.{is_not}
use Rattle.file.proofs.reading.read.Goals as goal

-- word 2 of record 0
at_first : {records : Records} {one : Record} {x : ℤ} → Names records 0 one → x ≡ cell (words_of one) one.at 2 → x ≡ word records.bytes.now 2
at_first n e = e ∙ (λ i. cell (word (n.same i)) (n.at i) 2)

-- as many records as the bytes that the records hold
whole : {b bs : List ℕ} {n : ℕ} → (b ≡ bs) × (Ok n ≡ counted (length bs)) → Ok n ≡ counted (length b)
whole h = h.1 ∙ (λ i. counted (length (sym h.0 i)))

pub returns-in_err-records : goal.returns-in_err-records
returns-in_err-records c =
    mapped_stopped _ c.from_residual.result c.in_err-records.field-0.0 (read_length c.args.bytes.now _ c.in_err-records.ensures) c.from_residual.ensures.1

pub returns-in_err-check_link : goal.returns-in_err-check_link
returns-in_err-check_link c =
    let h = c.in_ok-records.ensures in
    mapped_stopped _ c.from_residual-in_err-check_link.result c.in_err-check_link.field-0.0
    (ap reading (sym h.0) ∙ read_first _ _ (whole h) _ c.in_err-check_link.ensures)
    c.from_residual-in_err-check_link.ensures.1

pub returns-in_err-check_link-2 : goal.returns-in_err-check_link-2
returns-in_err-check_link-2 c =
    let h = c.in_ok-records.ensures in
    mapped_stopped _ c.from_residual-in_err-check_link-2.result c.in_err-check_link-2.field-0.0
    (ap reading (sym h.0) ∙ read_second _ _ (whole h) c.in_ok-check_link.ensures _ c.in_err-check_link-2.ensures)
    c.from_residual-in_err-check_link-2.ensures.1

pub returns-in_err-draft-in-Ok-Squares : goal.returns-in_err-draft-in-Ok-Squares
returns-in_err-draft-in-Ok-Squares c =
    let h = c.in_ok-records.ensures in
    let one : pos 1 ≡ word c.in_ok-records.records.bytes.now 2 = ap (λ kind. pos (family_number kind)) (sym c.in-Ok-Squares.field-0-is) ∙ c.in-Ok-Squares.ensures ∙ read_back (at_first c.record.ensures c.word.ensures) c.word.type_inv in
    mapped_stopped _ c.from_residual-in_err-draft-in-Ok-Squares.result c.in_err-draft-in-Ok-Squares.field-0.0
    (ap reading (sym h.0) ∙ read_squares _ _ (whole h) c.in_ok-check_link.ensures c.in_ok-check_link-2.ensures (λ i. is 1 (sym one i)) c.in_err-draft-in-Ok-Squares.ensures)
    c.from_residual-in_err-draft-in-Ok-Squares.ensures.1

pub returns-in_err-draft-in-Ok-Linear : goal.returns-in_err-draft-in-Ok-Linear
returns-in_err-draft-in-Ok-Linear c =
    let h = c.in_ok-records.ensures in
    let two : pos 2 ≡ word c.in_ok-records.records.bytes.now 2 = ap (λ kind. pos (family_number kind)) (sym c.in-Ok-Linear.field-0-is) ∙ c.in-Ok-Linear.ensures ∙ read_back (at_first c.record.ensures c.word.ensures) c.word.type_inv in
    mapped_stopped _ c.from_residual-in_err-draft-in-Ok-Linear.result c.in_err-draft-in-Ok-Linear.field-0.0
    (ap reading (sym h.0) ∙ read_linear _ _ (whole h) c.in_ok-check_link.ensures c.in_ok-check_link-2.ensures (λ i. is 1 (sym two i)) (λ i. is 2 (sym two i)) c.in_err-draft-in-Ok-Linear.ensures)
    c.from_residual-in_err-draft-in-Ok-Linear.ensures.1

pub returns-in_ok-draft-in-Ok-Squares : goal.returns-in_ok-draft-in-Ok-Squares
returns-in_ok-draft-in-Ok-Squares c =
    let h = c.in_ok-records.ensures in
    let one : pos 1 ≡ word c.in_ok-records.records.bytes.now 2 = ap (λ kind. pos (family_number kind)) (sym c.in-Ok-Squares.field-0-is) ∙ c.in-Ok-Squares.ensures ∙ read_back (at_first c.record.ensures c.word.ensures) c.word.type_inv in
    sym (ap reading (sym h.0) ∙ read_squares _ _ (whole h) c.in_ok-check_link.ensures c.in_ok-check_link-2.ensures (λ i. is 1 (sym one i)) c.in_ok-draft-in-Ok-Squares.ensures)

pub returns-in_ok-draft-in-Ok-Linear : goal.returns-in_ok-draft-in-Ok-Linear
returns-in_ok-draft-in-Ok-Linear c =
    let h = c.in_ok-records.ensures in
    let two : pos 2 ≡ word c.in_ok-records.records.bytes.now 2 = ap (λ kind. pos (family_number kind)) (sym c.in-Ok-Linear.field-0-is) ∙ c.in-Ok-Linear.ensures ∙ read_back (at_first c.record.ensures c.word.ensures) c.word.type_inv in
    sym (ap reading (sym h.0) ∙ read_linear _ _ (whole h) c.in_ok-check_link.ensures c.in_ok-check_link-2.ensures (λ i. is 1 (sym two i)) (λ i. is 2 (sym two i)) c.in_ok-draft-in-Ok-Linear.ensures)

pub returns-in-Err : goal.returns-in-Err
returns-in-Err c =
    let h = c.in_ok-records.ensures in
    let read = read_back (at_first c.record.ensures c.word.ensures) c.word.type_inv in
    let none : (kind : _) → _ = c.in-Err.ensures in
    sym (ap reading (sym h.0) ∙ read_unknown _ _ (whole h) c.in_ok-check_link.ensures c.in_ok-check_link-2.ensures
    (is_not 1 _ (λ e. none Squares (e ∙ sym read))) (is_not 2 _ (λ e. none Linear (e ∙ sym read))))
