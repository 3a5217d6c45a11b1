use Rattle.std.proofs.Common.{◌≡◌, take}
use Rattle.file.specs.Words.{word, span}
use Rattle.file.proofs.words.copy.Given as goal

-- the words so far stand in their places
abbrev pub invariant-loop-i : goal.invariant-loop-i
invariant-loop-i l = take l.i l.place ≡ span (word l.bytes) l.k l.i
