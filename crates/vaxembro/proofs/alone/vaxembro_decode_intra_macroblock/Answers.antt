-- `vaxembro::alone::vaxembro_decode_intra_macroblock` meets its contract: what the lent numbers say, handed to the decoder. Assumes nothing.
use mathlib.Core.Bool.{Bool}
use mathlib.Core.List.{List}
use mathlib.Core.Path.{◌≡◌, ap, ◌∙◌}
use Prim.Native.Nat.{ℕ}
use borrow.Author.Rules.{rules}
use lib.IntN.{ℤ}
use Rattle.prediction.specs.declared.predictor.BlockPredictors.{BlockPredictors}
use Rattle.assembly.specs.declared.context.MacroblockTextureContext.{MacroblockTextureContext}
use Rattle.macroblock.specs.Answer.{macroblock_answer, samples_out}
use Rattle.headers.specs.declared.header.MacroblockHeader.{MacroblockHeader}
use Rattle.vaxembro.specs.Answer.{answer_after, told_alone}
use Rattle.vaxembro.specs.Calls.{left_alone, left_over}
use Rattle.vaxembro.specs.declared.answer.Told.{Told}
use Rattle.numbers.proofs.Tests.{flag_passes, flag_refuses}
use Rattle.vaxembro.proofs.RoomLaws.{first_long, long-is, matrix-long, short_is}
use Rattle.std.specs.Prelude.{Result}
use Rattle.macroblock.specs.declared.decode.MacroblockDecoded.{MacroblockDecoded}
use Rattle.assembly.specs.declared.error.BlockAssemblyError.{BlockAssemblyError}
use Rattle.vaxembro.proofs.alone.vaxembro_decode_intra_macroblock.Goals as goal

-- what each lent number says, put in its place
all_is : {A : Type 0} (f : MacroblockHeader → Bool → Bool → MacroblockTextureContext → BlockPredictors → List (List ℕ) → A)
    {h h' : MacroblockHeader} {u u' v v' : Bool} {x x' : MacroblockTextureContext} {n n' : BlockPredictors} {w w' : List (List ℕ)}
    → h ≡ h' → u ≡ u' → v ≡ v' → x ≡ x' → n ≡ n' → w ≡ w' → f h u v x n w ≡ f h' u' v' x' n' w'
all_is f a b c d e g = λ i. f (a i) (b i) (c i) (d i) (e i) (g i)

-- all that is left, each part by itself
left_is : {n n' : ℕ} {xs xs' : List ℤ} {a a' : List ℕ} → n ≡ n' → xs ≡ xs' → a ≡ a' → left_over n xs a ≡ left_over n' xs' a'
left_is e f g = λ i. left_over (e i) (f i) (g i)

pub returns-then-not-long_enough : goal.returns-then-not-long_enough
unfolding left_alone
returns-then-not-long_enough c =
    let a = c.args in
    let e = flag_refuses c.long_enough.ensures c.if-not-long_enough.true in
    let told = c.refused-short.ensures ∙ ap (λ (y : Result MacroblockDecoded BlockAssemblyError). told_alone y a.at) (short_is _ e) in
    left_is (c.tell.ensures.0 ∙ ap (λ (y : Told). y.number) told) (short_is _ e) (c.tell.ensures.1 ∙ ap (λ (y : Told). answer_after y a.answer.now) told)

pub neighbours_of-near-requires : goal.neighbours_of-near-requires
neighbours_of-near-requires c = first_long 21 _ _ _ (flag_passes c.long_enough.ensures c.if-not-long_enough.false)

pub matrix_of-w-requires : goal.matrix_of-w-requires
matrix_of-w-requires c = matrix-long 21 _ _ _ (flag_passes c.long_enough.ensures c.if-not-long_enough.false)

pub returns : goal.returns
unfolding left_alone
returns c =
    let a = c.args in
    let bytes = a.«data».now in
    let samples = a.samples.now in
    let e = flag_passes c.long_enough.ensures c.if-not-long_enough.false in
    let r = c.decode_intra_macroblock-d.ensures in
    let decoded = long-is _ e (r.value ∙ all_is (λ (i : MacroblockHeader) (o p : Bool) (y : MacroblockTextureContext) (z : BlockPredictors) (m : List (List ℕ)). macroblock_answer bytes a.at i o p y z m samples) c.header_of-header.ensures c.use_intra_dc_vlc-dc_coded.ensures c.reversible_vlc-rev.ensures c.texture_context_of-ctx.ensures c.neighbours_of-near.ensures c.matrix_of-w.ensures) in
    let told = c.told_alone-t.ensures ∙ ap (λ (y : Result MacroblockDecoded BlockAssemblyError). told_alone y a.at) decoded in
    left_is
    (c.tell-2.ensures.0 ∙ ap (λ (y : Told). y.number) told)
    (long-is _ e (r.samples ∙ all_is (λ (i : MacroblockHeader) (o p : Bool) (y : MacroblockTextureContext) (z : BlockPredictors) (m : List (List ℕ)). samples_out bytes a.at i o p y z m samples) c.header_of-header.ensures c.use_intra_dc_vlc-dc_coded.ensures c.reversible_vlc-rev.ensures c.texture_context_of-ctx.ensures c.neighbours_of-near.ensures c.matrix_of-w.ensures))
    (c.tell-2.ensures.1 ∙ ap (λ (y : Told). answer_after y a.answer.now) told)
