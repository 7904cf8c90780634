-- Tests with their refusals, the first that fails answering. Assumes nothing.
use mathlib.Core.Bool.{Bool, cond, false, true}
use mathlib.Core.List.{List, [], ◌++◌, ◌∷◌}
use mathlib.Core.Path.{◌≡◌, ap, refl, ◌∙◌}
use Prim.Native.Nat.{ℕ}
use native.Mathlib.Omega.{arith}
use Rattle.assembly.specs.Answer.{first_bad}
use Rattle.assembly.specs.declared.error.BlockAssemblyError.{BlockAssemblyError}
use Rattle.std.specs.Prelude.{Err, Ok, Result, ⊤}

-- every test passes
abbrev pub AllPass : List (Bool × BlockAssemblyError) → Type 0
AllPass [] = Unit {0}
AllPass (t ∷ ts) = (t.0 ≡ true) × AllPass ts

passes : (b : Bool) (s : Result ⊤ BlockAssemblyError) (e : BlockAssemblyError) → cond b s (Err e) ≡ Ok tt → (b ≡ true) × (s ≡ Ok tt)
passes true s e q = (refl, q)
passes false s e q = absurd (let z : ◌≡◌ {A = ℕ} 0 1 = cc in omega arith)

pub all_pass : (ts : List (Bool × BlockAssemblyError)) → first_bad ts ≡ Ok tt → AllPass ts
all_pass [] q = tt
all_pass (t ∷ ts) q = let w = passes t.0 (first_bad ts) t.1 q in (w.0, all_pass ts w.1)

-- some tests, then others
pub bad_first : (ts us : List (Bool × BlockAssemblyError)) {e : BlockAssemblyError} → first_bad ts ≡ Err e → first_bad (ts ++ us) ≡ Err e
bad_first [] us q = absurd (let z : ◌≡◌ {A = ℕ} 0 1 = cc in omega arith)
bad_first (t ∷ ts) us {e} q = go (λ k. bad_first ts us k) t.0 q
  where
    go : (first_bad ts ≡ Err e → first_bad (ts ++ us) ≡ Err e) → (b : Bool) → cond b (first_bad ts) (Err t.1) ≡ Err e → cond b (first_bad (ts ++ us)) (Err t.1) ≡ Err e
    go h true q = h q
    go h false q = q

pub fine_first : (ts us : List (Bool × BlockAssemblyError)) → first_bad ts ≡ Ok tt → first_bad (ts ++ us) ≡ first_bad us
fine_first [] us q = refl
fine_first (t ∷ ts) us q = go (λ k. fine_first ts us k) t.0 q
  where
    go : (first_bad ts ≡ Ok tt → first_bad (ts ++ us) ≡ first_bad us) → (b : Bool) → cond b (first_bad ts) (Err t.1) ≡ Ok tt → cond b (first_bad (ts ++ us)) (Err t.1) ≡ first_bad us
    go h true q = h q
    go h false q = absurd (let z : ◌≡◌ {A = ℕ} 0 1 = cc in omega arith)

pub first_of : (ts us : List (Bool × BlockAssemblyError)) → first_bad (ts ++ us) ≡ Ok tt → first_bad ts ≡ Ok tt
first_of [] us q = refl
first_of (t ∷ ts) us q = let w = passes t.0 (first_bad (ts ++ us)) t.1 q in ap (λ (b : Bool). cond b (first_bad ts) (Err t.1)) w.0 ∙ first_of ts us w.1
