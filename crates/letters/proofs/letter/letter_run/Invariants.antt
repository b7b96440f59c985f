-- `letters::letter::letter_run` meets its contract. The loop's invariant: the letters passed are a run.
use Rattle.letters.specs.Letters.{LetterRun}
use Rattle.letters.proofs.letter.letter_run.Given as goal

abbrev pub invariant-loop-i : goal.invariant-loop-i
invariant-loop-i l = LetterRun l.src l.value l.i
