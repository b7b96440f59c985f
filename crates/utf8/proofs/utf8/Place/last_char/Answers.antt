-- `utf8::utf8::Place::last_char` meets its contract: at a text's start there is no byte, and elsewhere the character begins where `last_start` says.
use Rattle.std.proofs.Common.{arith, ◌∙◌, ap, ℕ, ◌≡◌, ◌<◌, true, get_or, take}
use Rattle.utf8.specs.Class.{is_continuation}
use Rattle.utf8.specs.Characters.{some_char}
use Rattle.utf8.proofs.Back.{none_before, starts_there}
use Rattle.utf8.proofs.Utf8Laws.{utf8_sound}
use Rattle.utf8.proofs.utf8.Place.last_char.Goals as goal

pub returns-then-self-eq0 : goal.returns-then-self-eq0
returns-then-self-eq0 c =
    let none : (k : ℕ) → k < c.args.self.at → is_continuation (get_or (take c.args.self.at c.args.self.text.bytes.now) k 0) ≡ true = (λ k h. absurd (omega arith)) in
    none_before (utf8_sound _ c.args.self.text.utf8) c.args.self.boundary none

pub returns : goal.returns
returns c = c.first_char.ensures ∙ ap some_char (starts_there (utf8_sound _ c.args.self.text.utf8) c.args.self.boundary (omega arith) c.last_start.ensures)
