-- Letters without the first ones.
use Rattle.std.specs.Prelude.{◌≡◌, List, ℕ, ◌+◌, ◌-◌, ◌≤◌, drop}
use Rattle.std.proofs.Common.{arith, length-drop, get_or-drop}
use Rattle.letters.specs.Letters.{Letters}

-- letters without the first k
pub letters_less : (src val : List ℕ) (n k : ℕ) → Letters src val n → k ≤ n → Letters (drop k src) (drop k val) (n - k)
letters_less src val n k l h =
    let ds = length-drop k src in
    let dv = length-drop k val in
    let is = l.run.in_source in
    let iv = l.run.in_value in
    record {
      run = record {
        in_source = omega arith;
        in_value = omega arith;
        each = λ j g.
            let e : k + (j + 1) ≡ k + j + 1 = omega arith in
            let f : k + (j + 2) ≡ k + j + 2 = omega arith in
            rw (get_or-drop k src j 0, get_or-drop k src (j + 1) 0, get_or-drop k src (j + 2) 0, get_or-drop k val j 0, e, f) (l.run.each (k + j) (omega arith));
      };
      whole = λ g. let e : k + (n - k) ≡ n = omega arith in rw (get_or-drop k src (n - k) 0, e) (l.whole (omega arith));
      last = λ g. let e : k + (n - k - 1) ≡ n - 1 = omega arith in rw (get_or-drop k src (n - k - 1) 0, e) (l.last (omega arith));
    }
