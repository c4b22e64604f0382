-- The lines of a dump are such as a reader takes: values after a time, of the eleven codes, and times that the number of ticks bounds. By induction on the waves. Assumes nothing.
use Prim.Native.Nat.{ℕ, suc, ◌+◌, ◌≤◌, ◌<◌}
use mathlib.Core.Path.{◌≡◌, refl}
use mathlib.Core.Bool.{Bool, true, false}
use mathlib.Core.List.{List, [], ◌∷◌, ◌++◌}
use native.Mathlib.Omega.{arith}
use lib.ListN.{length}
use Rattle.format.specs.Pick.{pick}
use Rattle.vcd_text.specs.Time.{time_of}
use Rattle.vcd_text.specs.Changes.{differ}
use Rattle.vcd_text.specs.Lines.{Line}
use Rattle.vcd_text.specs.Lines.Line.{Value}
use Rattle.vcd_lines.proofs.Laws.Reads.{readable}
use Rattle.vcd_laws.proofs.Lines.{changes_of, timed, lines_of}
use Rattle.vcd_laws.proofs.Values.{Eleven}

module _ (known : ℕ → Bool) (codes : (c : ℕ) → 33 ≤ c → c < 44 → known c ≡ true) where
  changes-readable : (code : ℕ) (before vs : List Bool) (ms : List Line) → 33 ≤ code → code + length vs ≤ 44 → readable known true ms
      → readable known true (changes_of code before vs ++ ms)
  unfolding readable changes_of pick
  changes-readable code before [] ms l h r = r
  changes-readable code [] (v ∷ vs) ms l h r =
      (refl, (codes code l (omega arith), changes-readable (suc code) [] vs ms (omega arith) (omega arith) r))
  changes-readable code (u ∷ us) (v ∷ vs) ms l h r =
      one (differ u v) (changes-readable (suc code) us vs ms (omega arith) (omega arith) r)
    where
      one : (t : Bool) → readable known true (changes_of (suc code) us vs ++ ms)
          → readable known true ((pick t (Value code v ∷ []) [] ++ changes_of (suc code) us vs) ++ ms)
      one true q = (refl, (codes code l (omega arith), q))
      one false q = q

  timed-readable : (b : Bool) (n : ℕ) (ls ms : List Line) → time_of n ≤ 4000000000 → readable known true (ls ++ ms) → ((c : Bool) → readable known c ms)
      → readable known b (timed n ls ++ ms)
  unfolding readable timed
  timed-readable b n [] ms h r q = q b
  timed-readable b n (l ∷ ls) ms h r q = (h, r)

  pub lines-readable : (b : Bool) (n : ℕ) (before : List Bool) (waves : List (List Bool)) → Eleven waves → n + length waves ≤ 14745601
      → readable known b (lines_of n before waves)
  unfolding readable lines_of Eleven
  lines-readable b n before [] e h = tt
  lines-readable b n before (vs ∷ later) (e, es) h =
      timed-readable b n (changes_of 33 before vs) (lines_of (suc n) vs later) (omega arith)
      (changes-readable 33 before vs (lines_of (suc n) vs later) (omega arith) (omega arith) (lines-readable true (suc n) vs later es (omega arith)))
      (λ (c : Bool). lines-readable c (suc n) vs later es (omega arith))
