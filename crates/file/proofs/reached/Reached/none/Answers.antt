use Rattle.std.proofs.Common.{length, false, replicate, ◌+◌, ◌≡◌, get_or, sym, subst}
use Rattle.file.specs.Chains.{has, left}
use Rattle.file.proofs.Tables.{no_flag, left_replicate}
use Rattle.file.proofs.reached.Reached.none.Goals as goal

pub invariant_of-result : goal.invariant_of-result
unfolding has left
invariant_of-result c = record {
  marks = λ k. subst (λ xs. get_or (replicate 819 false) k false ≡ has xs k) (sym c.new.ensures) (no_flag 819 k);
  room = subst (λ xs. length xs + left (replicate 819 false) ≡ 819) (sym c.new.ensures) (left_replicate 819);
}
