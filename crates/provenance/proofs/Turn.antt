-- A turn of the walk's loop, on plain values, over any fair step function.
use mathlib.Core.Bool.{cond}
use mathlib.Core.Path.{◌≡◌, refl, sym, ap, ◌∙◌, subst}
use mathlib.Core.Logic.{⊎_elim}
use mathlib.Core.List.{List, [], ◌∷◌, ◌++◌, append-nil, append_assoc}
use Prim.Native.Nat.{ℕ, zero, suc, ◌+◌, ◌-◌, ◌*◌, ◌≤◌, ◌<◌}
use native.Mathlib.Omega.{arith}
use lib.Dec.{ltb}
use lib.ListN.{length, take, drop, length-append}
use lib.Seq.{sets, sets-eq, length-sets, take_at, drop_at, drop-drop}
use borrow.Author.Tests.{lt-ltb, le-ltb}
use Rattle.provenance.specs.declared.step.Step.{Step}
use Rattle.std.specs.Prelude.{Some, None}
use Rattle.std.proofs.lemmas.Option.{none-some, same_Some}
use Rattle.provenance.specs.declared.step.Step.TheVariants.{Verbatim, Replacement}
use Rattle.provenance.specs.Grammar.{FittingStep}
use Rattle.provenance.specs.Reading.{IsReading, source_len, content_len, Piece, piece, verbatim, replacement}
use Rattle.provenance.specs.Layout.{zeros, flat, laid_by, piece_width, piece_numbers, laid_pieces, room}
use Rattle.provenance.specs.Writing.{put_piece, put_open, count_open, put_replacement, cleared_to, written_len}
use Rattle.utf8.specs.Tests.{by_order}
use Rattle.provenance.specs.Escape.{EscapeReach}
use Rattle.provenance.specs.StepLaws.{Fair}
use Rattle.provenance.proofs.PieceLaws.{closed_run, laid}
use Rattle.provenance.proofs.DemandLaws.{no_pieces}

-- ---- the open run

-- the run that is open in the source, closed in the text
closed_at : (base from s : ℕ) → closed_run (base + from) (base + s) ≡ cond (ltb from s) (piece verbatim (base + from) (base + s) (s - from) ∷ []) []
closed_at base from s =
    by_order from s
    (λ lt.
    let q : base + s - (base + from) ≡ s - from = omega arith in
    let h : base + from < base + s = omega arith in
    rw (lt-ltb _ _ lt, lt-ltb _ _ h, q))
    (λ le. let h : base + s ≤ base + from = omega arith in rw (le-ltb _ _ le, le-ltb _ _ h))

-- ---- the buffer

-- the pieces ps were written into a buffer of m numbers: as many as fit stand at its front, and all behind them is zero
pub record Kept (m : ℕ) (ps : List Piece) (buf : List ℕ) : Type 0 where
  pub size : length buf ≡ m
  pub kept : piece_width * length ps ≤ m → buf ≡ laid_pieces m ps
  pub behind : drop (written_len (length ps) m) buf ≡ zeros (m - written_len (length ps) m)

pub numbers_length : (ps : List Piece) → length (flat piece_numbers ps) ≡ piece_width * length ps
numbers_length [] = refl
numbers_length (p ∷ ps) = let i = numbers_length ps in omega arith

numbers_append : (ps qs : List Piece) → flat piece_numbers (ps ++ qs) ≡ flat piece_numbers ps ++ flat piece_numbers qs
numbers_append [] qs = refl
numbers_append (p ∷ ps) qs = ap (λ (l : List ℕ). piece_numbers p ++ l) (numbers_append ps qs)

-- what fits needs no more numbers than there are, and what does not fit fills the room
written_fits : (n m : ℕ) → piece_width * n ≤ m → written_len n m ≡ piece_width * n
unfolding written_len
written_fits n m h =
    by_order n (room m) (λ lt. rw (lt-ltb _ _ lt)) (λ le. let e : room m ≡ n = omega arith in rw (le-ltb _ _ le) (ap (λ (k : ℕ). piece_width * k) e))

written_full : (n m : ℕ) → room m ≤ n → written_len n m ≡ piece_width * room m
unfolding written_len
written_full n m h = rw (le-ltb _ _ h)

pub written_within : (n m : ℕ) → written_len n m ≤ m
unfolding written_len
written_within n m = by_order n (room m) (λ lt. rw (lt-ltb _ _ lt) (omega arith)) (λ le. rw (le-ltb _ _ le) (omega arith))

pub within_of : (k n m : ℕ) → k ≡ written_len n m → k ≤ m
within_of k n m e = let w = written_within n m in omega arith

filled_behind : (m : ℕ) (ps : List Piece) (buf : List ℕ) → piece_width * length ps ≤ m → buf ≡ laid_pieces m ps
    → drop (written_len (length ps) m) buf ≡ zeros (m - written_len (length ps) m)
unfolding laid_by
filled_behind m ps buf h e =
    rw (written_fits (length ps) m h, e) (drop_at (flat piece_numbers ps) (zeros (m - piece_width * length ps)) (piece_width * length ps) (numbers_length ps))

-- four stores behind a front of that length, where four zeros are
four_after : (xs zs : List ℕ) (i : ℕ) (p : Piece) → length xs ≡ i → sets (xs ++ (0 ∷ 0 ∷ 0 ∷ 0 ∷ zs)) i (piece_numbers p) ≡ xs ++ (piece_numbers p ++ zs)
four_after xs zs i p h =
    let l = xs ++ (0 ∷ 0 ∷ 0 ∷ 0 ∷ zs) in
    let n = length-append xs (0 ∷ 0 ∷ 0 ∷ 0 ∷ zs) in
    sets-eq (piece_numbers p) l i (omega arith)
    ∙ append_assoc (take i l) (piece_numbers p) (drop (i + 4) l)
    ∙ ap (λ (f : List ℕ). f ++ (piece_numbers p ++ drop (i + 4) l)) (take_at xs (0 ∷ 0 ∷ 0 ∷ 0 ∷ zs) i h)
    ∙ ap (λ (b : List ℕ). xs ++ (piece_numbers p ++ b)) (sym (drop-drop 4 i l) ∙ ap (drop 4) (drop_at xs (0 ∷ 0 ∷ 0 ∷ 0 ∷ zs) i h))

zeros_four : (r : ℕ) → zeros (4 + r) ≡ 0 ∷ 0 ∷ 0 ∷ 0 ∷ zeros r
zeros_four r = let e : 4 + r ≡ suc (suc (suc (suc r))) = omega arith in ap (λ (k : ℕ). zeros k) e

put_fits : (m : ℕ) (ps : List Piece) (buf : List ℕ) (p : Piece) → 4 * length ps + 4 ≤ m → buf ≡ laid_pieces m ps → sets buf (piece_width * length ps) (piece_numbers p) ≡ laid_pieces m (ps ++ (p ∷ []))
unfolding laid_by
put_fits m ps buf p fits h =
    let r : ℕ = m - (4 * length ps + 4) in
    let e : m - piece_width * length ps ≡ 4 + r = omega arith in
    let e' : m - piece_width * length (ps ++ (p ∷ [])) ≡ r = (let q = length-append ps (p ∷ []) in omega arith) in
    ap (λ (l : List ℕ). sets l (piece_width * length ps) (piece_numbers p)) (h ∙ ap (λ (k : ℕ). flat piece_numbers ps ++ zeros k) e ∙ ap (λ (l : List ℕ). flat piece_numbers ps ++ l) (zeros_four r))
    ∙ four_after (flat piece_numbers ps) (zeros r) (piece_width * length ps) p (numbers_length ps)
    ∙ sym (append_assoc (flat piece_numbers ps) (piece_numbers p) (zeros r))
    ∙ ap (λ (l : List ℕ). l ++ zeros r) (sym (numbers_append ps (p ∷ [])))
    ∙ ap (λ (k : ℕ). flat piece_numbers (ps ++ (p ∷ [])) ++ zeros k) (sym e')

pub put_kept : (m : ℕ) (ps : List Piece) (buf : List ℕ) (p : Piece) → Kept m ps buf → Kept m (ps ++ (p ∷ [])) (put_piece buf (length ps) p)
unfolding put_piece
put_kept m ps buf p h =
    let sz = h.size in
    let more = length-append ps (p ∷ []) in
    by_order (length ps) (room (length buf))
    (λ lt.
    let fits : 4 * length ps + 4 ≤ m = omega arith in
    let is : sets buf (piece_width * length ps) (piece_numbers p) ≡ laid_pieces m (ps ++ (p ∷ [])) = put_fits m ps buf p fits (h.kept (omega arith)) in
    rw (lt-ltb _ _ lt)
    (record {
      size = simp length-sets h.size;
      kept = λ _. is;
      behind = filled_behind m (ps ++ (p ∷ [])) _ (omega arith) is;
    }))
    (λ le.
    let same : written_len (length (ps ++ (p ∷ []))) m ≡ written_len (length ps) m = written_full (length (ps ++ (p ∷ []))) m (omega arith) ∙ sym (written_full (length ps) m (omega arith)) in
    rw (le-ltb _ _ le)
    (record {
      size = h.size;
      kept = λ over. absurd (omega arith);
      behind = ap (λ (k : ℕ). drop k buf) same ∙ h.behind ∙ ap (λ (k : ℕ). zeros (m - k)) (sym same);
    }))

open_kept : (m : ℕ) (ps : List Piece) (buf : List ℕ) (base from s : ℕ) → Kept m ps buf
    → Kept m (ps ++ closed_run (base + from) (base + s)) (put_open buf (length ps) base from s)
unfolding put_open
open_kept m ps buf base from s h =
    rw (closed_at base from s)
    (by_order from s
    (λ lt. rw (lt-ltb _ _ lt) (put_kept m ps buf (piece verbatim (base + from) (base + s) (s - from)) h))
    (λ le. rw (le-ltb _ _ le) (rw append-nil h)))

open_count : (ps : List Piece) (base from s : ℕ) → length (ps ++ closed_run (base + from) (base + s)) ≡ count_open (length ps) from s
open_count ps base from s =
    rw (closed_at base from s)
    (by_order from s (λ lt. rw (lt-ltb _ _ lt) (length-append ps _)) (λ le. rw (le-ltb _ _ le) (rw append-nil)))

count_within : (n from s : ℕ) → n ≤ from → from ≤ s → count_open n from s ≤ s
count_within n from s h k = by_order from s (λ lt. rw (lt-ltb _ _ lt) (omega arith)) (λ le. rw (le-ltb _ _ le) (omega arith))

regroup : (w f : List Piece) (p : Piece) (l : List Piece) → w ++ (f ++ (p ∷ l)) ≡ ((w ++ f) ++ (p ∷ [])) ++ l
regroup w f p l = simp append_assoc

-- what was written, cleared
pub clear_all : (m : ℕ) (ps : List Piece) (buf : List ℕ) (k : ℕ) → Kept m ps buf → k ≡ written_len (length ps) m → cleared_to k buf ≡ zeros m
clear_all m ps buf k h e =
    let w = written_within (length ps) m in
    let q : k + (m - k) ≡ m = omega arith in
    ap (λ (l : List ℕ). zeros k ++ l) (ap (λ (j : ℕ). drop j buf) e ∙ h.behind ∙ ap (λ (j : ℕ). zeros (m - j)) (sym e))
    ∙ lib.ListN.replicate-append-replicate k (m - k) 0
    ∙ ap (λ (j : ℕ). zeros j) q

-- ---- the walk

module _ (reach : EscapeReach) (at : ℕ → ℕ → FittingStep) (L len base m : ℕ) where
  -- a reading from here on gives one from the start, and the other way round; its pieces are those written and those of the rest
  pub record Going (buf : List ℕ) (s v from n : ℕ) : Type 0 where
    pub written : List Piece
    pub count : length written ≡ n
    pub held : Kept m written buf
    pub on : (ts : List Step) → IsReading at len s v ts → (us : List Step) × IsReading at len 0 0 us × (laid base base us ≡ written ++ laid (base + from) (base + s) ts)
    pub back : (us : List Step) → IsReading at len 0 0 us → (ts : List Step) × IsReading at len s v ts × (laid base base us ≡ written ++ laid (base + from) (base + s) ts)
    pub in_run : from ≤ s
    pub in_source : s ≤ L + reach.past
    pub in_value : v ≤ len + (reach.content - 1)
    pub few : n ≤ from + 1
    pub fewer : v < len → n ≤ from

  pub begins : (buf : List ℕ) → length buf ≡ m → buf ≡ zeros m → Going buf 0 0 0 0
  begins buf z e =
      let b : base + 0 ≡ base = omega arith in
      let all : buf ≡ laid_pieces m [] = e ∙ no_pieces m in
      record {
        written = [];
        count = refl;
        held = record { size = z; kept = λ _. all; behind = filled_behind m [] buf (omega arith) all };
        on = λ ts r. (ts, r, rw b);
        back = λ us r. (us, r, rw b);
        in_run = omega arith;
        in_source = omega arith;
        in_value = omega arith;
        few = omega arith;
        fewer = λ _. omega arith;
      }

  -- a reading goes on by the step that stands there
  next : (s v : ℕ) (t : Step) (ts : List Step) → v < len → at s v ≡ Some t → IsReading at len s v ts
      → (us : List Step) × (ts ≡ t ∷ us) × IsReading at len (s + source_len t) (v + content_len t) us
  unfolding IsReading
  next s v t [] h e r = absurd (omega arith)
  next s v t (u ∷ us) h e r =
      let q : u ≡ t = same_Some u t (sym r.1 ∙ e) in
      (us, ap (λ (x : Step). x ∷ us) q, subst (λ (x : Step). IsReading at len (s + source_len x) (v + content_len x) us) q r.2)

  -- and stops where none does
  stuck : (s v : ℕ) (ts : List Step) → v < len → at s v ≡ None → IsReading at len s v ts → ⊥
  unfolding IsReading
  stuck s v [] h e r = omega arith
  stuck s v (t ∷ ts) h e r = none-some t (sym e ∙ r.1)

  module _ (fair : Fair reach at L len) (buf : List ℕ) (s v from n : ℕ) (h : Going buf s v from n) where
    -- with the open run written
    abbrev W : List Piece
    W = h.written ++ closed_run (base + from) (base + s)

    count_W : count_open n from s ≡ length W
    count_W = ap (λ (k : ℕ). count_open k from s) (sym h.count) ∙ sym (open_count h.written base from s)

    kept_W : Kept m W (put_open buf n base from s)
    kept_W = subst (λ (k : ℕ). Kept m W (put_open buf k base from s)) h.count (open_kept m h.written buf base from s h.held)

    module _ (more : v < len) where
      pub on_verbatim : (k : ℕ) → at s v ≡ Some (Verbatim k) → Going buf (s + k) (v + k) from n
      unfolding IsReading laid
      on_verbatim k e =
          let b = fair.same s v k more e in
          let q : base + (s + k) ≡ base + s + k = omega arith in
          let few' = h.few in
          let fewer' = h.fewer more in
          let run = h.in_run in
          record {
            written = h.written;
            count = h.count;
            held = h.held;
            on = λ ts r. rw q (h.on (Verbatim k ∷ ts) (more, e, r));
            back = λ us r.
                let g = h.back us r in
                let x = next s v (Verbatim k) g.0 more e g.1 in
                (x.0, x.2, rw q (g.2 ∙ ap (λ (l : List Step). h.written ++ laid (base + from) (base + s) l) x.1));
            in_run = omega arith;
            in_source = omega arith;
            in_value = omega arith;
            few = omega arith;
            fewer = λ _. fewer';
          }

      pub on_replacement : (a b : ℕ) (e : at s v ≡ Some (Replacement a b)) (n' : ℕ) (buf' : List ℕ)
          → n' ≡ count_open n from s + 1 → buf' ≡ put_replacement buf n base from s a b → Going buf' (s + a) (v + b) (s + a) n'
      unfolding IsReading laid put_replacement
      on_replacement a b e n' buf' en eb =
          let p : Piece = piece replacement (base + s) (base + s + a) b in
          let q : base + (s + a) ≡ base + s + a = omega arith in
          let c : count_open n from s ≡ length W = count_W in
          let le : count_open n from s ≤ s = count_within n from s (h.fewer more) h.in_run in
          let bounds = fair.other s v a b more e in
          let size = length-append W (p ∷ []) in
          record {
            written = W ++ (p ∷ []);
            count = omega arith;
            held =
                subst (λ (l : List ℕ). Kept m (W ++ (p ∷ [])) l) (sym (eb ∙ ap (λ (k : ℕ). put_piece (put_open buf n base from s) k p) c))
                (put_kept m W (put_open buf n base from s) p kept_W);
            on = λ ts r.
                let g = h.on (Replacement a b ∷ ts) (more, e, r) in
                (g.0, g.1, rw q (g.2 ∙ regroup h.written (closed_run (base + from) (base + s)) p (laid (base + s + a) (base + s + a) ts)));
            back = λ us r.
                let g = h.back us r in
                let x = next s v (Replacement a b) g.0 more e g.1 in
                (x.0, x.2, rw q (g.2 ∙ ap (λ (l : List Step). h.written ++ laid (base + from) (base + s) l) x.1 ∙ regroup h.written (closed_run (base + from) (base + s)) p (laid (base + s + a) (base + s + a) x.0)));
            in_run = omega arith;
            in_source = ⊎_elim (λ w. omega arith) (λ w. let i = h.in_source in omega arith) bounds.1;
            in_value = bounds.0;
            few = omega arith;
            fewer = λ lt. ⊎_elim (λ w. omega arith) (λ w. absurd (omega arith)) bounds.1;
          }

      -- stuck short of the value's end: no reading at all
      pub on_none : at s v ≡ None → (us : List Step) → IsReading at len 0 0 us → ⊥
      on_none e us r = let g = h.back us r in stuck s v g.0 more e g.1

    -- at the value's end: the reading, and all its pieces
    module _ (end : len ≤ v) where
      pub at_end : (us : List Step) × IsReading at len 0 0 us × (laid base base us ≡ W)
      unfolding IsReading laid
      at_end = h.on [] end

      pub end_count : length (laid base base at_end.0) ≡ count_open n from s
      end_count = ap length at_end.2 ∙ sym count_W

      pub end_kept : Kept m (laid base base at_end.0) (put_open buf n base from s)
      end_kept = subst (λ (l : List Piece). Kept m l (put_open buf n base from s)) (sym at_end.2) kept_W

  -- equal bytes, one step each
  no_letter : (buf : List ℕ) (s v from n : ℕ) → Going buf s v from n → Going buf (s + 0) (v + 0) from n
  no_letter buf s v from n h =
      let es : s ≡ s + 0 = omega arith in
      let ev : v ≡ v + 0 = omega arith in
      subst (λ (x : ℕ). Going buf x (v + 0) from n) es (subst (λ (x : ℕ). Going buf s x from n) ev h)

  one_letter : (fair : Fair reach at L len) (buf : List ℕ) (s v from n k : ℕ) → Going buf (s + k) (v + k) from n → v + k < len
      → at (s + k) (v + k) ≡ Some (Verbatim 1) → Going buf (s + suc k) (v + suc k) from n
  one_letter fair buf s v from n k h more e =
      let es : s + k + 1 ≡ s + suc k = omega arith in
      let ev : v + k + 1 ≡ v + suc k = omega arith in
      subst (λ (x : ℕ). Going buf x (v + suc k) from n) es (subst (λ (x : ℕ). Going buf (s + k + 1) x from n) ev (on_verbatim fair buf (s + k) (v + k) from n h more 1 e))

  pub on_letters : (fair : Fair reach at L len) (buf : List ℕ) (s v from n k : ℕ) → Going buf s v from n → v + k ≤ len
      → ((j : ℕ) → j < k → at (s + j) (v + j) ≡ Some (Verbatim 1)) → Going buf (s + k) (v + k) from n
  on_letters fair buf s v from n zero h b all = no_letter buf s v from n h
  on_letters fair buf s v from n (suc k) h b all =
      one_letter fair buf s v from n k (on_letters fair buf s v from n k h (omega arith) (λ j l. all j (omega arith))) (omega arith) (all k (omega arith))
