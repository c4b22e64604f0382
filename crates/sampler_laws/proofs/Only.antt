-- The statements leave no choice. A list of pulses is of one shape (Laws/Every), and at each the statements say what both give, up to what a shorter list gives.
-- One just enabled hears lows, and then a high; a disable or an enable parts a list. Assumes nothing.
use Prim.Native.Nat.{suc, ◌+◌, ◌≤◌}
use mathlib.Core.Path.{◌≡◌, refl, sym, ap, subst, ◌∙◌}
use mathlib.Core.Bool.{Bool, true, false, and-eq-true_iff, true≢false}
use mathlib.Core.List.{List, [], ◌∷◌, ◌++◌, append_assoc, append-nil}
use native.Mathlib.Omega.{arith}
use lib.Dec.{leb}
use lib.ListN.{length, length-append}
use Rattle.feed.specs.declared.feed.Setting.{Setting}
use Rattle.sampler_state.specs.State.{hunting}
use Rattle.sampler.specs.Lines.{Line, arrivals}
use Rattle.sampler.specs.Lines.Line.{pulse, enable, disable}
use Rattle.sampler_laws.specs.Sampling.{Found, lines, level_at, all_at, stop_at, Assembly, Flags, Samples}
use Rattle.sampler_laws.specs.Breaks.{Breaks, all_low_one, runs}
use Rattle.sampler_laws.specs.Breaks.Stopped.{stopped16, stopped1}
use Rattle.sampler_laws.specs.Confirms.{Tells}
use Rattle.sampler_laws.specs.Only.{narrow, narrow_lines, Arrives, Only}
use Rattle.sampler_laws.proofs.Sampling.{samples_rule}
use Rattle.sampler_laws.proofs.Breaks.{breaks_rule}
use Rattle.sampler_laws.proofs.Enabling.{enables_rule}
use Rattle.sampler_laws.proofs.Laws.ToldAfter.{lines_append}
use Rattle.sampler_laws.proofs.Laws.Every.{Heard, every, Follows, follows, narrow_append}

lines_of : (a b : Found) → lines (a ++ b) ≡ lines a ++ lines b
lines_of [] b = refl
lines_of (x ∷ a) b = rw (lines_of a b)

-- ---- what is told ----

module _ (start change : Bool) (i e i₂ e₂ : Flags) (h : Tells start change i e) (k : Tells start change i₂ e₂) where
  told_same : (xs : Found) → Heard xs → i (lines xs) ≡ i₂ (lines xs)
  told_same _ Heard.nothing = h.end ∙ sym k.end
  told_same _ (Heard.high f rest r) = rw (h.high f rest, k.high f rest, told_same rest r)
  told_same _ (Heard.early f ls x w l) = h.early f ls x l ∙ sym (k.early f ls x l)
  told_same _ (Heard.none f ls rest x b l r) = rw (lines_of ls rest, h.none f ls rest x b l, k.none f ls rest x b l, told_same rest r)
  told_same _ (Heard.sixteen f ls x w b l m) = h.sixteen f ls x w b l m ∙ sym (k.sixteen f ls x w b l m)
  told_same _ (Heard.one f ls x w l) = h.one f ls x w l ∙ sym (k.one f ls x w l)
  told_same _ (Heard.stopped f ls rest x r) = rw (lines_of ls rest, h.stopped f ls rest x, k.stopped f ls rest x, told_same rest r)
  told_same _ (Heard.fewer f ls lows x a l) = rw (lines_of ls lows, h.fewer f ls lows x a l, k.fewer f ls lows x a l)
  told_same _ (Heard.again f g ls lows rest x a l r) =
      rw (
        lines_of ls (lows ++ (false, g) ∷ rest),
        lines_of lows ((false, g) ∷ rest),
        h.again f g ls lows rest x a l,
        k.again f g ls lows rest x a l,
        told_same ((false, g) ∷ rest) r,
      )
  told_same _ (Heard.until f g ls lows rest x a l r) =
      rw (
        lines_of ls (lows ++ (true, g) ∷ rest),
        lines_of lows ((true, g) ∷ rest),
        h.until f g ls lows rest x a l,
        k.until f g ls lows rest x a l,
        told_same rest r,
      )
  told_same _ (Heard.lasts f ls rs highs x a b) =
      rw (lines_of ls (runs rs ++ highs), lines_of (runs rs) highs, h.lasts f ls rs highs x a b, k.lasts f ls rs highs x a b)
  told_same _ (Heard.ends f g ls rs highs rest x a b c r) =
      rw (
        lines_of ls (runs rs ++ (highs ++ (true, g) ∷ rest)),
        lines_of (runs rs) (highs ++ (true, g) ∷ rest),
        lines_of highs ((true, g) ∷ rest),
        h.ends f g ls rs highs rest x a b c,
        k.ends f g ls rs highs rest x a b c,
        told_same rest r,
      )

-- ---- what arrives ----

module _ (i i₂ : Assembly) (h : Samples i) (b : Breaks i) (k : Samples i₂) (c : Breaks i₂) where
  came_same : (xs : Found) → Heard xs → i (lines xs) ≡ i₂ (lines xs)
  came_same _ Heard.nothing = h.end ∙ sym k.end
  came_same _ (Heard.high f rest r) = rw (h.high f rest, k.high f rest, came_same rest r)
  came_same _ (Heard.early f ls x w l) =
      let low : 8 ≤ length ls → level_at ls 7 ≡ false = λ q. absurd (omega arith) in
      h.before f ls x w low (omega arith) ∙ sym (k.before f ls x w low (omega arith))
  came_same _ (Heard.none f ls rest x a l r) = rw (lines_of ls rest, h.none f ls rest x a l, k.none f ls rest x a l, came_same rest r)
  came_same _ (Heard.sixteen f ls x w a l m) = h.before f ls x w (λ q. a) m ∙ sym (k.before f ls x w (λ q. a) m)
  came_same _ (Heard.one f ls x w l) = b.before f ls x w l ∙ sym (c.before f ls x w l)
  came_same _ (Heard.stopped f ls rest (stopped16 x s) r) =
      let high : stop_at f ls ≡ false → rest ≡ [] = λ q. absurd (true≢false (sym s ∙ q)) in
      rw (lines_of ls rest, h.sixteen f ls rest x high, k.sixteen f ls rest x high, came_same rest r)
  came_same _ (Heard.stopped f ls rest (stopped1 x s) r) =
      let some : all_low_one f ls ≡ true → rest ≡ [] = λ q. absurd (true≢false (sym q ∙ s)) in
      rw (
        lines_of ls rest,
        h.one f ls rest x.one x.width x.end some,
        k.one f ls rest x.one x.width x.end some,
        came_same rest r,
      )
  came_same _ (Heard.fewer f ls lows x a l) = rw (lines_of ls lows, b.fewer f ls lows x a l, c.fewer f ls lows x a l)
  came_same _ (Heard.again f g ls lows rest x a l r) =
      rw (
        lines_of ls (lows ++ (false, g) ∷ rest),
        lines_of lows ((false, g) ∷ rest),
        ← append_assoc (pulse false f ∷ lines ls) (lines lows) (pulse false g ∷ lines rest),
        h.again f g ls lows rest x.made x.low x.some a l,
        k.again f g ls lows rest x.made x.low x.some a l,
        came_same ((false, g) ∷ rest) r,
      )
  came_same _ (Heard.until f g ls lows rest x a l r) =
      rw (
        lines_of ls (lows ++ (true, g) ∷ rest),
        lines_of lows ((true, g) ∷ rest),
        ← append_assoc (pulse false f ∷ lines ls) (lines lows) (pulse true g ∷ lines rest),
        h.until f g ls lows rest x.made x.low x.some a l,
        k.until f g ls lows rest x.made x.low x.some a l,
        came_same rest r,
      )
  came_same _ (Heard.lasts f ls rs highs x a d) =
      rw (lines_of ls (runs rs ++ highs), lines_of (runs rs) highs, b.lasts f ls rs highs x a d, c.lasts f ls rs highs x a d)
  came_same _ (Heard.ends f g ls rs highs rest x a d q r) =
      rw (
        lines_of ls (runs rs ++ (highs ++ (true, g) ∷ rest)),
        lines_of (runs rs) (highs ++ (true, g) ∷ rest),
        lines_of highs ((true, g) ∷ rest),
        b.ends f g ls rs highs rest x a d q,
        c.ends f g ls rs highs rest x a d q,
        came_same rest r,
      )

-- ---- from an enable on ----

-- two that give the same of what is heard after a high, and are made of that in the same way
pub record Same {A : Type 0} (i e i₂ e₂ : List Line → List A) : Type 0 where
  pub heard : (ls : Found) → narrow ls ≡ true → i (lines ls) ≡ i₂ (lines ls)
  pub lows : (ls : Found) → all_at false ls ≡ true → e (lines ls) ≡ e₂ (lines ls)
  pub waits : (g : Setting) (ls rest : Found) → all_at false ls ≡ true → i (lines rest) ≡ i₂ (lines rest)
      → e (lines ls ++ pulse true g ∷ lines rest) ≡ e₂ (lines ls ++ pulse true g ∷ lines rest)
  pub drops : (xs ys : List Line) → e xs ≡ e₂ xs → e ys ≡ e₂ ys → e (xs ++ disable ∷ ys) ≡ e₂ (xs ++ disable ∷ ys)
  pub enables : (xs ys : List Line) → e xs ≡ e₂ xs → e ys ≡ e₂ ys → e (xs ++ enable ∷ ys) ≡ e₂ (xs ++ enable ∷ ys)

narrow_more : (ls : Found) (b : Bool) (f : Setting) → narrow ls ≡ true → leb f.format.width.0 8 ≡ true → narrow (ls ++ (b, f) ∷ []) ≡ true
narrow_more [] b f n w = rw w
narrow_more ((c, g) ∷ ls) b f n w =
    let both = (and-eq-true_iff (leb g.format.width.0 8) _).0 n in
    rw both.0 (narrow_more ls b f both.1 w)

module _ {A : Type 0} (i e i₂ e₂ : List Line → List A) (s : Same i e i₂ e₂) where
  pulses_same : (ls : Found) → narrow ls ≡ true → e (lines ls) ≡ e₂ (lines ls)
  pulses_same ls n = go (follows (length ls) ls)
    where
      go : Follows (length ls) ls → e (lines ls) ≡ e₂ (lines ls)
      go (Follows.all lows a l q) = subst (λ (r : Found). e (lines r) ≡ e₂ (lines r)) q (s.lows lows a)
      go (Follows.then_low lows g rest a l q) =
          let m : length (lows ++ (false, g) ∷ rest) ≡ length lows + suc (length rest) = length-append lows ((false, g) ∷ rest) in
          let k : length (lows ++ (false, g) ∷ rest) ≡ length ls = ap length q in
          absurd (omega arith)
      go (Follows.then_high lows g rest a l q) =
          let w = narrow_append (lows ++ (true, g) ∷ []) rest (rw (append_assoc lows ((true, g) ∷ []) rest, q) n) in
          subst (λ (r : Found). e (lines r) ≡ e₂ (lines r)) q (rw (lines_of lows ((true, g) ∷ rest)) (s.waits g lows rest a (s.heard rest w)))

  same_from : (ls : Found) (ys : List Line) → narrow ls ≡ true → narrow_lines ys ≡ true → e (lines ls ++ ys) ≡ e₂ (lines ls ++ ys)
  same_from ls [] n m = rw (append-nil (lines ls)) (pulses_same ls n)
  same_from ls (pulse b f ∷ ys) n m =
      let both = (and-eq-true_iff (leb f.format.width.0 8) _).0 m in
      rw (← lines_append ls ((b, f) ∷ []) ys) (same_from (ls ++ (b, f) ∷ []) ys (narrow_more ls b f n both.0) both.1)
  same_from ls (disable ∷ ys) n m = s.drops (lines ls) ys (pulses_same ls n) (same_from [] ys refl m)
  same_from ls (enable ∷ ys) n m = s.enables (lines ls) ys (pulses_same ls n) (same_from [] ys refl m)

-- ---- both statements ----

told_only : (start change : Bool) (i e i₂ e₂ : Flags) → Tells start change i e → Tells start change i₂ e₂
    → (xs : List Line) → narrow_lines xs ≡ true → e xs ≡ e₂ xs
told_only start change i e i₂ e₂ h k xs n = same_from i e i₂ e₂ same [] xs refl n
  where
    same : Same i e i₂ e₂
    same = record {
      heard = λ ls w. told_same start change i e i₂ e₂ h k ls (every ls w);
      lows = λ ls a. h.lows ls a ∙ sym (k.lows ls a);
      waits = λ g ls rest a q. rw (h.waits g ls rest a, k.waits g ls rest a, q);
      drops = λ xs ys p q. rw (h.drops xs ys, k.drops xs ys, p, q);
      enables = λ xs ys p q. rw (h.enables xs ys, k.enables xs ys, p, q);
    }

arrivals_only : (i e i₂ e₂ : Assembly) → Arrives i e → Arrives i₂ e₂ → (xs : List Line) → narrow_lines xs ≡ true → e xs ≡ e₂ xs
arrivals_only i e i₂ e₂ h k xs n = same_from i e i₂ e₂ same [] xs refl n
  where
    same : Same i e i₂ e₂
    same = record {
      heard = λ ls w. came_same i i₂ h.samples h.breaks k.samples k.breaks ls (every ls w);
      lows = λ ls a. h.enables.none ls a ∙ sym (k.enables.none ls a);
      waits = λ g ls rest a q. rw (h.enables.waits g ls rest a, k.enables.waits g ls rest a, q);
      drops = λ xs ys p q. rw (h.enables.drops xs ys, k.enables.drops xs ys, p, q);
      enables = λ xs ys p q. rw (h.enables.enables xs ys, k.enables.enables xs ys, p, q);
    }

-- the sampler is one that meets what is said of arrivals (Confirms has what is told)
pub arrives_rule : Arrives (arrivals (hunting true)) (arrivals (hunting false))
arrives_rule = record { samples = samples_rule; breaks = breaks_rule; enables = enables_rule }

pub only : Only
only = record { arrivals = arrivals_only; told = told_only }
