-- What a gate answers, by its test.
use mathlib.Core.Path.{◌≡◌, refl, sym, ap, ◌∙◌}
use mathlib.Core.Bool.{Bool, true, false}
use Rattle.std.specs.Prelude.{ℕ, Result, Ok, Err, IsErrAnd, MatchResult}
use Rattle.parser.specs.declared.answer.Refusal.{Refusal}
use Rattle.parser.specs.declared.answer.Refused.{Refused}
use Rattle.parser.specs.Held.{gate}

pub gate_shut : (t : Bool) (e x : Refusal) → gate t e ≡ Err x → (t ≡ true) × (e ≡ x)
gate_shut true e x h = (refl, cc)
gate_shut false e x h = cc

pub gate_open : (t : Bool) (e : Refusal) (u : Unit {0}) → gate t e ≡ Ok u → t ≡ false
gate_open true e u h = cc
gate_open false e u h = refl

-- what `?` hands on
pub handed_on : (r : Result (Unit {0}) Refusal) (e x : Refusal) → IsErrAnd r (λ y. y ≡ x) → e ≡ x → r ≡ Err e
handed_on (Ok u) e x h s = absurd h
handed_on (Err y) e x h s = ap Err (h ∙ sym s)

-- what `map_err` answers
pub mapped_ok : (P : Refusal → Refused → Type 0) (r : Result ℕ Refusal) (s : Result ℕ Refused) (x : ℕ)
    → MatchResult r (λ y. s ≡ Ok y) (λ e. IsErrAnd s (P e)) → s ≡ Ok x → r ≡ Ok x
mapped_ok P (Ok y) s x h is = ap Ok (let e = sym h ∙ is in cc)
mapped_ok P (Err e) s x h is = absurd (rw is at h)

pub mapped_err : (P : Refusal → Refused → Type 0) (r : Result ℕ Refusal) (s : Result ℕ Refused) (d : Refused)
    → MatchResult r (λ y. s ≡ Ok y) (λ e. IsErrAnd s (P e)) → s ≡ Err d → (e : Refusal) × (r ≡ Err e) × P e d
mapped_err P (Ok y) s d h is = let e = sym h ∙ is in cc
mapped_err P (Err e) s d h is = (e, refl, rw is at h)
