-- What each bit of a byte weighs, written out: computed of the eight bits alone, of the bytes that have one of them and of those that lack one, and
-- of all 256 bytes put together again. The statement takes what it speaks of, so that two bits exchanged in both are refuted by it. Assumes nothing.
use Prim.Native.Nat.{ℕ, zero, suc, ◌+◌, ◌≤◌, ◌<◌}
use mathlib.Core.Path.{◌≡◌, refl, sym, ◌∙◌, ap}
use mathlib.Core.Bool.{Bool, true, false}
use mathlib.Core.List.{List, [], ◌∷◌}
use native.Mathlib.Omega.{arith}
use native.Mathlib.Nat.{add-zero, zero-add}
use lib.ListN.{replicate, get_or}
use borrow.Author.Tests.{le-ltb}
use Rattle.format.specs.Pick.{pick}
use Rattle.format.proofs.Laws.Numbers.{listed}
use Rattle.byte_bits.specs.Bytes.{has_bit, weight_of, byte_of}

-- the bytes of bit 0 alone, of bit 1 alone and so on
abbrev pub powers : List ℕ
powers = 1 ∷ 2 ∷ 4 ∷ 8 ∷ 16 ∷ 32 ∷ 64 ∷ 128 ∷ []

-- all bits but one
abbrev pub lacks : List ℕ
lacks = 254 ∷ 253 ∷ 251 ∷ 247 ∷ 239 ∷ 223 ∷ 191 ∷ 127 ∷ []

-- bit k of the k-th of some bytes
abbrev pub each_at : (ℕ → ℕ → Bool) → ℕ → List ℕ → List Bool
each_at has k [] = []
each_at has k (x ∷ xs) = has x k ∷ each_at has (1 + k) xs

-- "SR bits 7-0", "ISR bits 7-0", "bits 0-5 IP0-IP5, 6 RxDA, 7 RxDB": bit 7 is 128 and bit 0 is 1
pub record Weighs (has : ℕ → ℕ → Bool) (byte : Bool → Bool → Bool → Bool → Bool → Bool → Bool → Bool → ℕ) : Type 0 where
  pub weights :
      byte false false false false false false false true
      ∷ byte false false false false false false true false
      ∷ byte false false false false false true false false
      ∷ byte false false false false true false false false
      ∷ byte false false false true false false false false
      ∷ byte false false true false false false false false
      ∷ byte false true false false false false false false
      ∷ byte true false false false false false false false
      ∷ []
      ≡ powers
  pub set : each_at has 0 powers ≡ replicate 8 true
  pub clear : each_at has 0 lacks ≡ replicate 8 false
  -- all 256, each from its own bits
  pub whole :
      listed (λ (x : ℕ). byte (has x 7) (has x 6) (has x 5) (has x 4) (has x 3) (has x 2) (has x 1) (has x 0)) 256 0
      ≡ listed (λ (x : ℕ). x) 256 0
  -- there is no bit above 7
  pub above : (x n : ℕ) → 8 ≤ n → has x n ≡ false

pub weighs : Weighs has_bit byte_of
unfolding has_bit byte_of weight_of pick
weighs = record { weights = refl; set = refl; clear = refl; whole = refl; above = λ x n l. rw (le-ltb n 8 l) }

-- ---- a byte from its own bits ----

listed_at : (table : ℕ → ℕ) (n k i : ℕ) → i < n → get_or (listed table n k) i 0 ≡ table (k + i)
listed_at table zero k i h = absurd (omega arith)
listed_at table (suc n) k zero h = ap table (sym (add-zero k))
listed_at table (suc n) k (suc i) h =
    let next : suc k + i ≡ k + suc i = omega arith in
    listed_at table n (suc k) i (omega arith) ∙ ap table next

pub own_bits : (x : ℕ) → x < 256
    → byte_of (has_bit x 7) (has_bit x 6) (has_bit x 5) (has_bit x 4) (has_bit x 3) (has_bit x 2) (has_bit x 1) (has_bit x 0) ≡ x
own_bits x h =
    sym (at from_bits) ∙ ap (λ (l : List ℕ). get_or l x 0) weighs.whole ∙ at (λ (y : ℕ). y)
  where
    from_bits : ℕ → ℕ
    from_bits y = byte_of (has_bit y 7) (has_bit y 6) (has_bit y 5) (has_bit y 4) (has_bit y 3) (has_bit y 2) (has_bit y 1) (has_bit y 0)

    at : (table : ℕ → ℕ) → get_or (listed table 256 0) x 0 ≡ table x
    at table = listed_at table 256 0 x h ∙ ap table (zero-add x)
