-- Laws of a walk over a reader: what it owns gives what its slice owns, and what it owns at another position. They assume `Logic`, for the calculus alone.
use mathlib.Core.Path.{◌≡◌, refl}
use Prim.Native.Nat.{ℕ, ◌<◌, ◌^◌}
use mathlib.Core.List.{[], ◌∷◌}
use lib.ListN.{length}
use seplogic.Ra.Ura.{Ura}
use mir.Syntax.{named, w64}
use base.Logic.{SProp, ent, sep, emp, via, emp∗, mono_l, comm∗}
use base.Fml.{Fml}
use types.Logic.{Logic, sem}
use contract.Monad.{fact, fact_i}
use types.Kit.{‵, ◌⊛◌, given, ◌$◌, ◌∵◌, !, qed, by, move, drop, use1, split, learn, done}
use denote.Laws.{Is}
use denote.Plain.{uint_Makes}
use denote.Builtin.{u8, usize}
use denote.Ref.{NamedLft}
use denote.Slice.{slice_val, ShrSlice}
use denote.Steps.{owned}
use denote.Struct.Declared.{Declared}
use denote.Struct.Laws as LL
use denote.Struct.Rest.{all_own, field_own, rest, own_open, own_out, own_put}
use denote.Struct.Values.{Values}
use Rattle.bit_reader.specs.declared.reader.BitReader.{BitReader}
use Rattle.bit_reader.specs.contracts.reader.BitReader as T
use Rattle.bit_reader.proofs.reader.BitReader.TheLaws as T'

-- the reader at another position
abbrev pub moved : BitReader → ℕ → BitReader
moved d m = record { «data» = d.«data»; bit_pos = m }

-- what it owns at a lifetime
abbrev pub held : NamedLft → BitReader → Fml
held β d = (T.the_row β).own_val d (T'.lowered d ∷ [])

-- what its slice owns, as a callee's first parameter
abbrev pub slice : NamedLft → BitReader → Fml
slice β d = (ShrSlice (named 0) β.lft u8).own_val d.«data» (slice_val d.«data».ref_ptr (length d.«data».now) ∷ [])

module _ {M : Type 1} {𝓤 : Ura M} (𝓛 : Logic 𝓤) (β : NamedLft) (d : BitReader) where
  abbrev D : Declared
  D = T.the_type β

  abbrev L : LL.Laws D
  L = T'.the_laws β

  abbrev vd : Values D.parts
  vd = (d.«data», (d.bit_pos, tt))

  pub slice_of : ent 𝓤 (sem 𝓛 (held β d)) (sem 𝓛 (slice β d))
  slice_of =
      qed 𝓛 (‵ (held β d) ∷ []) ∵
      use1 𝓛 (given (T'.lowered d ∷ [] ≡ T'.lowered d ∷ []) (‵ (all_own D.parts L vd))) (own_open 𝓛 D L vd (T'.lowered d)) $
      learn ! (λ _. use1 𝓛 (‵ (field_own D.parts L 0 d.«data») ⊛ ‵ (rest D.parts L 0 vd)) (own_out 𝓛 D.parts L 0 vd) $ split ! $ move ! (1 ∷ []) $ drop ! $ done !)

  -- what the slice owns is kept, and the facts of the position are made anew
  pub at_another : (m : ℕ) → m < 2 ^ 64 → ent 𝓤 (sem 𝓛 (held β d)) (sem 𝓛 (held β (moved d m)))
  at_another m fits = qed 𝓛 (‵ (held β d) ∷ []) ∵ owned ! usize (Is usize) (uint_Makes 𝓛 w64) m _ (refl, fits) $ move ! (1 ∷ 0 ∷ []) $ by ! (own_put 𝓛 D L 1 vd m (T'.lowered d))

module _ {M : Type 1} (𝓤 : Ura M) where
  with_fact : (φ : Type 0) (P : SProp 𝓤) → φ → ent 𝓤 P (sep 𝓤 (fact 𝓤 φ) P)
  with_fact φ P x = via 𝓤 (sep 𝓤 (emp 𝓤) P) (emp∗ 𝓤 P) (mono_l 𝓤 P (fact_i 𝓤 φ (emp 𝓤) x))

  -- an `ensures` of three clauses, of which each states a fact
  pub says_three : (φ ψ χ : Type 0) (P : SProp 𝓤) → φ → ψ → χ → ent 𝓤 P (sep 𝓤 P (sep 𝓤 (fact 𝓤 φ) (sep 𝓤 (fact 𝓤 ψ) (fact 𝓤 χ))))
  says_three φ ψ χ P x y z =
      via 𝓤 (sep 𝓤 (emp 𝓤) P) (emp∗ 𝓤 P)
      (via 𝓤 (sep 𝓤 (sep 𝓤 (fact 𝓤 φ) (sep 𝓤 (fact 𝓤 ψ) (fact 𝓤 χ))) P) (mono_l 𝓤 P (via 𝓤 (fact 𝓤 χ) (fact_i 𝓤 χ (emp 𝓤) z) (via 𝓤 (sep 𝓤 (fact 𝓤 ψ) (fact 𝓤 χ)) (with_fact ψ (fact 𝓤 χ) y) (with_fact φ (sep 𝓤 (fact 𝓤 ψ) (fact 𝓤 χ)) x))))
      (comm∗ 𝓤 (sep 𝓤 (fact 𝓤 φ) (sep 𝓤 (fact 𝓤 ψ) (fact 𝓤 χ))) P))
