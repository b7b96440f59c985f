-- What the answer is, at the call: the count and the refusals.
use Rattle.std.specs.Prelude.{◌≡◌, refl, List, [], ◌∷◌, ℕ, ◌+◌, ◌*◌, ◌≤◌, Bool, true, false, cond, map, ltb, length, Ok, Err, Result}
use Rattle.std.proofs.Common.{sym, ◌∙◌, subst, arith, ltb-false}
use Rattle.std.proofs.lemmas.Bool.{lt-ltb, le-ltb}
use Rattle.utf8.specs.Utf8.{Utf8, is_ascii}
use Rattle.utf8.specs.Characters.{codes, is_utf8}
use Rattle.utf8.specs.Tests.{clash}
use Rattle.utf8.proofs.Utf8Laws.{utf8_complete, utf8_sound}
use Rattle.text.specs.Admission.{text_limit, admission}
use Rattle.text.specs.Admitted.{AdmittedText}
use Rattle.text.proofs.AdmissionLaws.{admitted_text, admitted_ascii}
use Rattle.text.specs.declared.admission.TextError.{TextError}
use Rattle.text.specs.declared.admission.TextError.TheVariants.{TooLong, NotUtf8}
use Rattle.text.specs.declared.offset.Cursor.{Cursor}
use Rattle.travel.specs.Travel.{markers_limit, clamped, distances, travel_of, cursor_travel, counted}
use Rattle.travel.specs.Steps.{start, Travels}
use Rattle.travel.specs.Proved.{NeverFall, CountSays, EveryCount, EveryAnswer}
use Rattle.travel.proofs.TravelLaws.{codes_most}
use Rattle.travel.proofs.StepLaws.{travels_steps, travels_way, start_is}

-- ---- the sum

-- indices that never fall come no further than the text's end
rising : (n k : ℕ) (ms : List ℕ) → k ≤ n → NeverFall k (map (clamped n) ms) → k + distances k (map (clamped n) ms) ≤ n
unfolding distances
rising n k [] l h = omega arith
rising n k (m ∷ ms) l h = let a = h.0 in let rest = rising n (clamped n m) ms (omega arith) h.1 in omega arith

-- each distance is at most the text
sum_most : (n k : ℕ) (ms : List ℕ) → k ≤ n → n ≤ text_limit → distances k (map (clamped n) ms) ≤ length ms * text_limit
unfolding distances
sum_most n k [] l h = omega arith
sum_most n k (m ∷ ms) l h = let rest = sum_most n (clamped n m) ms (omega arith) h in omega arith

-- ---- an answer that counts

module _ (text markers : List ℕ) (count : ℕ) where
  -- what it comes from: markers within their number, and a text that is admitted
  record FromAdmitted : Type 0 where
    few : length markers ≤ markers_limit
    is_ascii_text : Bool
    admitted : admission text ≡ Ok is_ascii_text
    is : travel_of text markers (Ok is_ascii_text) ≡ Ok count

  from_admitted : (b : Bool) (a : Result Bool TextError) → ltb markers_limit (length markers) ≡ b → admission text ≡ a
      → cond b (Err TooLong) (travel_of text markers a) ≡ Ok count → FromAdmitted
  from_admitted true a p q e = absurd (let z : ◌≡◌ {A = ℕ} 0 1 = cc in omega arith)
  from_admitted false (Err x) p q e = absurd (let z : ◌≡◌ {A = ℕ} 0 1 = cc in omega arith)
  from_admitted false (Ok x) p q e = record { few = ltb-false markers_limit (length markers) p; is_ascii_text = x; admitted = q; is = e }

  says : (x : Bool) → x ≡ is_ascii text → AdmittedText text → length markers ≤ markers_limit → travel_of text markers (Ok x) ≡ Ok count → CountSays text markers count
  says true a t few e =
      let z : count ≡ 0 = cc in
      record {
        ascii = λ h. z;
        way = λ h. absurd (clash (a ∙ h));
        every_way = λ h. absurd (clash (a ∙ h));
        never_fall = λ h. omega arith;
        most = omega arith;
      }
  says false a t few e =
      let n = length (codes text) in
      let z : count ≡ distances 0 (map (clamped n) markers) = cc in
      let short = codes_most text in
      let within = t.within in
      record {
        ascii = λ h. absurd (clash (sym (a ∙ h)));
        way = λ h. subst (λ (c : Cursor). (ways : List (List Cursor)) × Travels text c markers ways) (start_is text) (travels_way t.utf8 0 markers);
        every_way = λ h ways g. travels_steps text start markers ways g ∙ sym z;
        never_fall = λ h. let r = rising n 0 markers (omega arith) h in omega arith;
        most = let m = sum_most n 0 markers (omega arith) (omega arith) in omega arith;
      }

  count_says : cursor_travel text markers ≡ Ok count → CountSays text markers count
  unfolding cursor_travel
  count_says e =
      let c = from_admitted (ltb markers_limit (length markers)) (admission text) refl refl e in
      says c.is_ascii_text (admitted_ascii text c.is_ascii_text c.admitted) (admitted_text text c.is_ascii_text c.admitted) c.few c.is

-- 0 is the number of no refusal
counts : (count : ℕ) (r : Result ℕ TextError) → counted r ≡ 0 ∷ count ∷ [] → r ≡ Ok count
counts count (Ok n) e = let z : n ≡ count = cc in rw z refl
counts count (Err TooLong) e = absurd (let z : ◌≡◌ {A = ℕ} 1 0 = cc in omega arith)
counts count (Err NotUtf8) e = absurd (let z : ◌≡◌ {A = ℕ} 2 0 = cc in omega arith)

pub every_count : EveryCount
every_count text markers count e = count_says text markers count (counts count (cursor_travel text markers) e)

-- ---- which answer it is

either : (b : Bool) → counted (cond b (Err TooLong) (Err TooLong)) ≡ 1 ∷ 0 ∷ []
either true = refl
either false = refl

no_utf8_is : (s : List ℕ) → (Utf8 s → ⊥) → is_utf8 s ≡ false
no_utf8_is s h = go (is_utf8 s) refl
  where
    go : (b : Bool) → is_utf8 s ≡ b → is_utf8 s ≡ false
    go true e = absurd (h (utf8_sound s e))
    go false e = e

some_count : (text markers : List ℕ) (x : Bool) → (count : ℕ) × (counted (travel_of text markers (Ok x)) ≡ 0 ∷ count ∷ [])
some_count text markers true = (_, refl)
some_count text markers false = (_, refl)

pub every_answer : EveryAnswer
unfolding cursor_travel admission
every_answer text markers =
    record {
      long_text = λ h. rw (lt-ltb text_limit (length text) h) (either (ltb markers_limit (length markers)));
      many_markers = λ h. rw (lt-ltb markers_limit (length markers) h) refl;
      no_utf8 = λ l m h. rw (le-ltb text_limit (length text) l, le-ltb markers_limit (length markers) m, no_utf8_is text h) refl;
      admitted = λ l m u. rw (le-ltb text_limit (length text) l, le-ltb markers_limit (length markers) m, utf8_complete u) (some_count text markers (is_ascii text));
    }
