-- Counts of spellings: they add up to the number of events, and those of two lists put together are their sums. Assumes nothing.
use mathlib.Core.List.{List, [], ◌∷◌, ◌++◌}
use mathlib.Core.Path.{◌≡◌, ap, refl, sym, ◌∙◌}
use Prim.Native.Nat.{ℕ, suc, ◌+◌}
use native.Mathlib.Omega.{arith}
use lib.ListN.{length}
use Rattle.events.specs.Event.{Event, spelling_of}
use Rattle.events.specs.Spellings.{no_spellings, one_more, spellings_of, together, total_of}
use Rattle.events.specs.declared.spelling.Spelling.{Spelling}
use Rattle.events.specs.declared.spelling.Spelling.TheVariants.{Plain, RvlcEscape, Type1, Type2, Type3}
use Rattle.events.specs.declared.spelling.Spellings.{Spellings}

-- five counts that are the same
pub same_counts : {n m : Spellings} → n.plain ≡ m.plain → n.type1 ≡ m.type1 → n.type2 ≡ m.type2 → n.type3 ≡ m.type3 → n.rvlc_escape ≡ m.rvlc_escape → n ≡ m
same_counts a b c d e = λ i. record { plain = a i; type1 = b i; type2 = c i; type3 = d i; rvlc_escape = e i }

pub total_more : (k : Spelling) (n : Spellings) → total_of (one_more k n) ≡ total_of n + 1
total_more Plain n = omega arith
total_more Type1 n = omega arith
total_more Type2 n = omega arith
total_more Type3 n = omega arith
total_more RvlcEscape n = omega arith

pub total_together : (n m : Spellings) → total_of (together n m) ≡ total_of n + total_of m
total_together n m = omega arith

pub none_first : (n : Spellings) → together no_spellings n ≡ n
none_first n = same_counts (omega arith) (omega arith) (omega arith) (omega arith) (omega arith)

pub none_last : (n : Spellings) → together n no_spellings ≡ n
none_last n = same_counts (omega arith) (omega arith) (omega arith) (omega arith) (omega arith)

-- one more on the left is one more on the right
pub more_across : (k : Spelling) (n m : Spellings) → together (one_more k n) m ≡ together n (one_more k m)
more_across Plain n m = same_counts (omega arith) refl refl refl refl
more_across Type1 n m = same_counts refl (omega arith) refl refl refl
more_across Type2 n m = same_counts refl refl (omega arith) refl refl
more_across Type3 n m = same_counts refl refl refl (omega arith) refl
more_across RvlcEscape n m = same_counts refl refl refl refl (omega arith)

more_left : (k : Spelling) (n m : Spellings) → together (one_more k n) m ≡ one_more k (together n m)
more_left Plain n m = same_counts (omega arith) refl refl refl refl
more_left Type1 n m = same_counts refl (omega arith) refl refl refl
more_left Type2 n m = same_counts refl refl (omega arith) refl refl
more_left Type3 n m = same_counts refl refl refl (omega arith) refl
more_left RvlcEscape n m = same_counts refl refl refl refl (omega arith)

pub together_assoc : (n m k : Spellings) → together (together n m) k ≡ together n (together m k)
together_assoc n m k = same_counts (omega arith) (omega arith) (omega arith) (omega arith) (omega arith)

-- the five counts add up to the number of events
pub counts_all : (es : List Event) → total_of (spellings_of es) ≡ length es
unfolding spellings_of
counts_all [] = refl
counts_all (e ∷ es) = total_more (spelling_of e) (spellings_of es) ∙ ap (λ (n : ℕ). n + 1) (counts_all es) ∙ let z : length es + 1 ≡ suc (length es) = omega arith in z

-- the counts of two lists, one after the other
pub counts_together : (xs ys : List Event) → spellings_of (xs ++ ys) ≡ together (spellings_of xs) (spellings_of ys)
unfolding spellings_of
counts_together [] ys = sym (none_first (spellings_of ys))
counts_together (e ∷ xs) ys = ap (one_more (spelling_of e)) (counts_together xs ys) ∙ sym (more_left (spelling_of e) (spellings_of xs) (spellings_of ys))
