-- Every list of pulses is of one of the shapes that the statements speak of: a low at p is too short a time ago, or a false start, or of a character that is not
-- finished, or of one that is, and then of what follows its stop; the rest is a shorter list. Assumes nothing.
use Prim.Native.Nat.{ℕ, zero, suc, ◌+◌, ◌*◌, ◌≤◌, ◌<◌}
use mathlib.Core.Path.{◌≡◌, refl, sym, ap, subst, ◌∙◌}
use mathlib.Core.Bool.{Bool, true, false, and-eq-true_iff, true≢false}
use mathlib.Core.List.{List, [], ◌∷◌, ◌++◌, append_assoc, append-nil}
use native.Mathlib.Omega.{arith}
use native.Mathlib.Decide.{dec_lt}
use lib.Dec.{leb}
use lib.ListN.{length, take, drop, length-append, take-append-drop}
use lib.Seq.{length-take-le}
use borrow.Author.Tests.{leb-true, lt-ltb}
use Rattle.feed.specs.declared.feed.Setting.{Setting}
use Rattle.sampler_laws.specs.Sampling.{Found, level_at, before_stop, all_at, all_sixteen, Sixteen, stop_at, all_low}
use Rattle.sampler_laws.specs.Breaks.{One, all_low_one, Broken, Stopped, Unstopped, Run, runs, few, all_few, Ends}
use Rattle.sampler_laws.specs.Breaks.Broken.{broken16, broken1}
use Rattle.sampler_laws.specs.Breaks.Stopped.{stopped16, stopped1}
use Rattle.sampler_laws.specs.Only.{narrow}
use Rattle.sampler_laws.proofs.Laws.ToldAfter.{few_are}

-- ---- the shapes ----

pub data Heard : Found → Type 0 where
  nothing : Heard []
  high : (f : Setting) (rest : Found) → Heard rest → Heard ((true, f) ∷ rest)
  early : (f : Setting) (ls : Found) → f.sixteen ≡ true → f.format.width.0 ≤ 8 → length ls ≤ 7 → Heard ((false, f) ∷ ls)
  none : (f : Setting) (ls rest : Found) → f.sixteen ≡ true → level_at ls 7 ≡ true → length ls ≡ 8 → Heard rest → Heard ((false, f) ∷ (ls ++ rest))
  sixteen : (f : Setting) (ls : Found) → f.sixteen ≡ true → f.format.width.0 ≤ 8 → level_at ls 7 ≡ false → 8 ≤ length ls
      → length ls < 24 + 16 * before_stop f.format → Heard ((false, f) ∷ ls)
  one : (f : Setting) (ls : Found) → f.sixteen ≡ false → f.format.width.0 ≤ 8 → length ls < before_stop f.format + 1 → Heard ((false, f) ∷ ls)
  stopped : (f : Setting) (ls rest : Found) → Stopped f ls → Heard rest → Heard ((false, f) ∷ (ls ++ rest))
  fewer : (f : Setting) (ls lows : Found) → Unstopped f ls → all_at false lows ≡ true → length lows ≤ 7 → Heard ((false, f) ∷ (ls ++ lows))
  again : (f g : Setting) (ls lows rest : Found) → Unstopped f ls → all_at false lows ≡ true → length lows ≡ 7 → Heard ((false, g) ∷ rest)
      → Heard ((false, f) ∷ (ls ++ (lows ++ (false, g) ∷ rest)))
  until : (f g : Setting) (ls lows rest : Found) → Unstopped f ls → all_at false lows ≡ true → length lows ≤ 7 → Heard rest
      → Heard ((false, f) ∷ (ls ++ (lows ++ (true, g) ∷ rest)))
  lasts : (f : Setting) (ls : Found) (rs : List Run) (highs : Found) → Broken f ls → all_few rs ≡ true → few highs ≡ true
      → Heard ((false, f) ∷ (ls ++ (runs rs ++ highs)))
  ends : (f g : Setting) (ls : Found) (rs : List Run) (highs rest : Found) → Broken f ls → all_few rs ≡ true → few highs ≡ true → Ends highs g
      → Heard rest → Heard ((false, f) ∷ (ls ++ (runs rs ++ (highs ++ (true, g) ∷ rest))))

-- ---- the lows after a low stop ----

pub data Follows (k : ℕ) (xs : Found) : Type 0 where
  all : (lows : Found) → all_at false lows ≡ true → length lows ≤ k → lows ≡ xs → Follows k xs
  then_low : (lows : Found) (g : Setting) (rest : Found) → all_at false lows ≡ true → length lows ≡ k → lows ++ (false, g) ∷ rest ≡ xs → Follows k xs
  then_high : (lows : Found) (g : Setting) (rest : Found) → all_at false lows ≡ true → length lows ≤ k → lows ++ (true, g) ∷ rest ≡ xs → Follows k xs

one_more : (k : ℕ) (g : Setting) (xs : Found) → Follows k xs → Follows (suc k) ((false, g) ∷ xs)
one_more k g xs (all lows a l e) = all ((false, g) ∷ lows) a (omega arith) (ap (λ (r : Found). (false, g) ∷ r) e)
one_more k g xs (then_low lows h rest a l e) = then_low ((false, g) ∷ lows) h rest a (omega arith) (ap (λ (r : Found). (false, g) ∷ r) e)
one_more k g xs (then_high lows h rest a l e) = then_high ((false, g) ∷ lows) h rest a (omega arith) (ap (λ (r : Found). (false, g) ∷ r) e)

pub follows : (k : ℕ) (xs : Found) → Follows k xs
follows k [] = all [] refl (omega arith) refl
follows k ((true, g) ∷ xs) = then_high [] g xs refl (omega arith) refl
follows zero ((false, g) ∷ xs) = then_low [] g xs refl refl refl
follows (suc k) ((false, g) ∷ xs) = one_more k g xs (follows k xs)

-- ---- a break's runs ----

data Waits (xs : Found) : Type 0 where
  lasting : (rs : List Run) (highs : Found) → all_few rs ≡ true → few highs ≡ true → runs rs ++ highs ≡ xs → Waits xs
  ended : (rs : List Run) (highs : Found) (g : Setting) (rest : Found) → all_few rs ≡ true → few highs ≡ true → Ends highs g
      → runs rs ++ (highs ++ (true, g) ∷ rest) ≡ xs → Waits xs

-- a run before
interrupted : (highs : Found) (g : Setting) (xs : Found) → few highs ≡ true → Waits xs → Waits (highs ++ (false, g) ∷ xs)
interrupted highs g xs f (lasting rs hs r e q) =
    lasting ((highs, g) ∷ rs) hs (rw (f, r)) e (append_assoc highs ((false, g) ∷ runs rs) hs ∙ ap (λ (l : Found). highs ++ (false, g) ∷ l) q)
interrupted highs g xs f (ended rs hs k rest r e end q) =
    ended ((highs, g) ∷ rs) hs k rest (rw (f, r)) e end
    (append_assoc highs ((false, g) ∷ runs rs) (hs ++ (true, k) ∷ rest) ∙ ap (λ (l : Found). highs ++ (false, g) ∷ l) q)

-- a high more
all_more : (highs : Found) (g : Setting) → all_at true highs ≡ true → all_at true (highs ++ (true, g) ∷ []) ≡ true
all_more [] g a = refl
all_more ((false, f) ∷ highs) g a = absurd (true≢false (sym a))
all_more ((true, f) ∷ highs) g a = all_more highs g a

sixteen_more : (highs : Found) (g : Setting) → all_sixteen highs ≡ true → g.sixteen ≡ true → all_sixteen (highs ++ (true, g) ∷ []) ≡ true
sixteen_more [] g a e = rw e
sixteen_more ((b, f) ∷ highs) g a e =
    let both = (and-eq-true_iff f.sixteen _).0 a in
    rw both.0 (sixteen_more highs g both.1 e)

few_more : (highs : Found) (g : Setting) → few highs ≡ true → g.sixteen ≡ true → length highs < 7 → few (highs ++ (true, g) ∷ []) ≡ true
few_more highs g f e l =
    let x = few_are highs f in
    rw (all_more highs g x.high, sixteen_more highs g x.sixteen e, length-append highs ((true, g) ∷ [])) (lt-ltb (length highs + 1) 8 (omega arith))

waits : (highs xs : Found) → few highs ≡ true → Waits (highs ++ xs)
waits highs [] f = lasting [] highs refl f (sym (append-nil highs))
waits highs ((false, g) ∷ xs) f = interrupted highs g xs f (waits [] xs refl)
waits highs ((true, g) ∷ xs) f = go g.sixteen refl (dec_lt (length highs) 7) (λ e. waits (highs ++ (true, g) ∷ []) xs e)
  where
    go : (b : Bool) → g.sixteen ≡ b → Dec (length highs < 7) → (few (highs ++ (true, g) ∷ []) ≡ true → Waits ((highs ++ (true, g) ∷ []) ++ xs))
        → Waits (highs ++ (true, g) ∷ xs)
    go false s d more = ended [] highs g xs refl f (λ t. absurd (true≢false (sym t ∙ s))) refl
    go true s (yes p) more = subst Waits (append_assoc highs ((true, g) ∷ []) xs) (more (few_more highs g f s p))
    go true s (no p) more = let x = few_are highs f in let l = x.short in ended [] highs g xs refl f (λ t. omega arith) refl

-- ---- every list ----

-- at most so long, and narrow
pub record Tail (n : ℕ) (xs : Found) : Type 0 where
  pub long : length xs ≤ n
  pub narrows : narrow xs ≡ true

pub narrow_append : (a b : Found) → narrow (a ++ b) ≡ true → narrow b ≡ true
narrow_append [] b e = e
narrow_append ((x, f) ∷ a) b e = narrow_append a b ((and-eq-true_iff (leb f.format.width.0 8) _).0 e).1

-- what follows some
tail_append : (n : ℕ) (a b : Found) → Tail n (a ++ b) → Tail n b
tail_append n a b t =
    let l : length (a ++ b) ≤ n = t.long in
    let m : length (a ++ b) ≡ length a + length b = length-append a b in
    record { long = omega arith; narrows = narrow_append a b t.narrows }

tail_next : (n : ℕ) (x : Bool × Setting) (b : Found) → Tail n (x ∷ b) → Tail n b
tail_next n x b t = tail_append n (x ∷ []) b t

-- the lists that are shorter
abbrev Shorter : ℕ → Type 0
Shorter n = (ys : Found) → Tail n ys → Heard ys

after_broken : (n : ℕ) (f : Setting) (ls xs : Found) → Broken f ls → Tail n xs → Shorter n → Heard ((false, f) ∷ (ls ++ xs))
after_broken n f ls xs b t shorter = go (waits [] xs refl)
  where
    go : Waits xs → Heard ((false, f) ∷ (ls ++ xs))
    go (lasting rs highs r e q) = subst (λ (l : Found). Heard ((false, f) ∷ (ls ++ l))) q (lasts f ls rs highs b r e)
    go (ended rs highs g rest r e end q) =
        let u : Tail n (runs rs ++ (highs ++ (true, g) ∷ rest)) = subst (Tail n) (sym q) t in
        let v = tail_next n (true, g) rest (tail_append n highs ((true, g) ∷ rest) (tail_append n (runs rs) (highs ++ (true, g) ∷ rest) u)) in
        subst (λ (l : Found). Heard ((false, f) ∷ (ls ++ l))) q (ends f g ls rs highs rest b r e end (shorter rest v))

after_unstopped : (n : ℕ) (f : Setting) (ls xs : Found) → Unstopped f ls → Tail n xs → Shorter n → Heard ((false, f) ∷ (ls ++ xs))
after_unstopped n f ls xs b t shorter = go (follows 7 xs)
  where
    go : Follows 7 xs → Heard ((false, f) ∷ (ls ++ xs))
    go (all lows a l q) = subst (λ (r : Found). Heard ((false, f) ∷ (ls ++ r))) q (fewer f ls lows b a l)
    go (then_low lows g rest a l q) =
        let u : Tail n (lows ++ (false, g) ∷ rest) = subst (Tail n) (sym q) t in
        subst (λ (r : Found). Heard ((false, f) ∷ (ls ++ r))) q (again f g ls lows rest b a l (shorter ((false, g) ∷ rest) (tail_append n lows ((false, g) ∷ rest) u)))
    go (then_high lows g rest a l q) =
        let u : Tail n (lows ++ (true, g) ∷ rest) = subst (Tail n) (sym q) t in
        subst (λ (r : Found). Heard ((false, f) ∷ (ls ++ r))) q
        (until f g ls lows rest b a l (shorter rest (tail_next n (true, g) rest (tail_append n lows ((true, g) ∷ rest) u))))

after_sixteen : (n : ℕ) (f : Setting) (ls xs : Found) → Sixteen f ls → Tail n xs → Shorter n → Heard ((false, f) ∷ (ls ++ xs))
after_sixteen n f ls xs x t shorter = go (stop_at f ls) (all_low f ls) refl refl
  where
    go : (stop low : Bool) → stop_at f ls ≡ stop → all_low f ls ≡ low → Heard ((false, f) ∷ (ls ++ xs))
    go true low s e = stopped f ls xs (stopped16 x s) (shorter xs t)
    go false true s e = after_broken n f ls xs (broken16 x e) t shorter
    go false false s e = after_unstopped n f ls xs (record { made = x; low = s; some = e }) t shorter

after_one : (n : ℕ) (f : Setting) (ls xs : Found) → One f ls → Tail n xs → Shorter n → Heard ((false, f) ∷ (ls ++ xs))
after_one n f ls xs x t shorter = go (all_low_one f ls) refl
  where
    go : (low : Bool) → all_low_one f ls ≡ low → Heard ((false, f) ∷ (ls ++ xs))
    go true e = after_broken n f ls xs (broken1 x e) t shorter
    go false e = stopped f ls xs (stopped1 x e) (shorter xs t)

level_taken : (n : ℕ) (ls : Found) (i : ℕ) → i < n → level_at (take n ls) i ≡ level_at ls i
level_taken zero ls i l = absurd (omega arith)
level_taken (suc n) [] i l = refl
level_taken (suc n) (x ∷ ls) zero l = refl
level_taken (suc n) (x ∷ ls) (suc i) l = level_taken n ls i (omega arith)

-- as the first so many, and the others
parted : (n k : ℕ) (f : Setting) (xs : Found) → Tail n xs → (Tail n (drop k xs) → Heard ((false, f) ∷ (take k xs ++ drop k xs))) → Heard ((false, f) ∷ xs)
parted n k f xs t h =
    let same = take-append-drop k xs in
    subst (λ (l : Found). Heard ((false, f) ∷ l)) same (h (tail_append n (take k xs) (drop k xs) (subst (Tail n) (sym same) t)))

low_sixteen : (n : ℕ) (f : Setting) (xs : Found) → f.sixteen ≡ true → f.format.width.0 ≤ 8 → Tail n xs → Shorter n → Heard ((false, f) ∷ xs)
low_sixteen n f xs x w t shorter = go (dec_lt (length xs) 8) (level_at xs 7) refl (dec_lt (length xs) (24 + 16 * before_stop f.format))
  where
    go : Dec (length xs < 8) → (b : Bool) → level_at xs 7 ≡ b → Dec (length xs < 24 + 16 * before_stop f.format) → Heard ((false, f) ∷ xs)
    go (yes p) b e d = early f xs x w (omega arith)
    go (no p) true e d =
        parted n 8 f xs t
        (λ u. none f (take 8 xs) (drop 8 xs) x (level_taken 8 xs 7 (omega arith) ∙ e) (length-take-le 8 xs (omega arith)) (shorter (drop 8 xs) u))
    go (no p) false e (yes q) = sixteen f xs x w e (omega arith) q
    go (no p) false e (no q) =
        let m : ℕ = 24 + 16 * before_stop f.format in
        parted n m f xs t
        (λ u. after_sixteen n f (take m xs) (drop m xs)
        (record { sixteen = x; width = w; low = level_taken m xs 7 (omega arith) ∙ e; end = length-take-le m xs (omega arith) }) u shorter)

low_one : (n : ℕ) (f : Setting) (xs : Found) → f.sixteen ≡ false → f.format.width.0 ≤ 8 → Tail n xs → Shorter n → Heard ((false, f) ∷ xs)
low_one n f xs x w t shorter = go (dec_lt (length xs) (before_stop f.format + 1))
  where
    go : Dec (length xs < before_stop f.format + 1) → Heard ((false, f) ∷ xs)
    go (yes p) = one f xs x w p
    go (no p) =
        let m : ℕ = before_stop f.format + 1 in
        parted n m f xs t
        (λ u. after_one n f (take m xs) (drop m xs) (record { one = x; width = w; end = length-take-le m xs (omega arith) }) u shorter)

low_at : (n : ℕ) (f : Setting) (xs : Found) → f.format.width.0 ≤ 8 → Tail n xs → Shorter n → Heard ((false, f) ∷ xs)
low_at n f xs w t shorter = go f.sixteen refl
  where
    go : (b : Bool) → f.sixteen ≡ b → Heard ((false, f) ∷ xs)
    go true x = low_sixteen n f xs x w t shorter
    go false x = low_one n f xs x w t shorter

tail_of : (n : ℕ) (x : Bool × Setting) (xs : Found) → Tail (suc n) (x ∷ xs) → Tail n xs
tail_of n (b, f) xs t =
    let l : suc (length xs) ≤ suc n = t.long in
    record { long = omega arith; narrows = ((and-eq-true_iff (leb f.format.width.0 8) _).0 t.narrows).1 }

one_longer : (n : ℕ) → Shorter n → Shorter (suc n)
one_longer n shorter [] t = nothing
one_longer n shorter ((true, f) ∷ xs) t = high f xs (shorter xs (tail_of n (true, f) xs t))
one_longer n shorter ((false, f) ∷ xs) t =
    let w = leb-true f.format.width.0 8 ((and-eq-true_iff (leb f.format.width.0 8) _).0 t.narrows).0 in
    low_at n f xs w (tail_of n (false, f) xs t) shorter

empty : Shorter 0
empty [] t = nothing
empty (x ∷ xs) t = let l : suc (length xs) ≤ 0 = t.long in absurd (omega arith)

heard_within : (n : ℕ) → Shorter n
heard_within zero = empty
heard_within (suc n) = one_longer n (heard_within n)

pub every : (xs : Found) → narrow xs ≡ true → Heard xs
every xs e = heard_within (length xs) xs (record { long = omega arith; narrows = e })
