-- How grammars are put together: one after the other, one that depends on the one before it, one that a flag has, one for each of a list. No reader is named here. Definitions only.
use Rattle.std.specs.Prelude.{◌≡◌, Bool, true, false, List, [], ◌∷◌, ◌<◌, length, Option, None, Some}
use Rattle.bits.specs.Bits.{Bits}
use Rattle.events.specs.Event.{◌▸◌}

-- the bits begin with a good sentence
abbrev pub Begins : {A : Type 0} → (A → Bits) → (A → Type 0) → Bits → A → Type 0
Begins bits Good b a = Good a × ((r : Bits) × (b ≡ bits a ▸ r))

-- the bits break off inside a good sentence: they begin it, and it has more
abbrev pub BreaksOff : {A : Type 0} → (A → Bits) → (A → Type 0) → Bits → A → Type 0
BreaksOff bits Good b a = Good a × ((r : Bits) × ((0 < length r) × (bits a ≡ b ▸ r)))

-- one after the other
abbrev pub pair_bits : {A B : Type 0} → (A → Bits) → (B → Bits) → A × B → Bits
pair_bits f g x = f x.0 ▸ g x.1

abbrev pub GoodPair : {A B : Type 0} → (A → Type 0) → (B → Type 0) → A × B → Type 0
GoodPair P Q x = P x.0 × Q x.1

-- one after the other, the second as what the first says asks for it
abbrev pub then_bits : {A B : Type 0} → (A → Bits) → (A → B → Bits) → A × B → Bits
then_bits f g x = f x.0 ▸ g x.0 x.1

abbrev pub GoodThen : {A B : Type 0} → (A → Type 0) → (A → B → Type 0) → A × B → Type 0
GoodThen P Q x = P x.0 × Q x.0 x.1

-- there if the flag is set
abbrev pub opt_bits : {A : Type 0} → (A → Bits) → Option A → Bits
opt_bits f None = []
opt_bits f (Some a) = f a

abbrev pub GoodOpt : {A : Type 0} → Bool → (A → Type 0) → Option A → Type 0
GoodOpt true P None = ⊥
GoodOpt true P (Some a) = P a
GoodOpt false P None = Unit {0}
GoodOpt false P (Some a) = ⊥

-- one for each of a list
abbrev pub each_bits : {S A : Type 0} → (S → A → Bits) → List S → List A → Bits
each_bits f [] [] = []
each_bits f [] (a ∷ xs) = []
each_bits f (s ∷ ss) [] = []
each_bits f (s ∷ ss) (a ∷ xs) = f s a ▸ each_bits f ss xs

abbrev pub GoodEach : {S A : Type 0} → (S → A → Type 0) → List S → List A → Type 0
GoodEach P [] [] = Unit {0}
GoodEach P [] (a ∷ xs) = ⊥
GoodEach P (s ∷ ss) [] = ⊥
GoodEach P (s ∷ ss) (a ∷ xs) = P s a × GoodEach P ss xs

-- each of a list with its fellow of another
abbrev pub each_with : {S A B : Type 0} → (S → A → B) → List S → List A → List B
each_with f [] xs = []
each_with f (s ∷ ss) [] = []
each_with f (s ∷ ss) (x ∷ xs) = f s x ∷ each_with f ss xs
