-- `vaxembro::whole::vaxembro_decode_intra_macroblock_with_header` meets its contract: what the lent numbers say, handed to the decoder. Assumes nothing.
use mathlib.Core.Bool.{Bool}
use mathlib.Core.List.{List}
use mathlib.Core.Path.{◌≡◌, ap, ◌∙◌}
use Prim.Native.Nat.{ℕ}
use borrow.Author.Rules.{rules}
use borrow.Author.Tests.{le-leb}
use lib.IntN.{ℤ}
use lib.ListN.{length}
use Rattle.prediction.specs.declared.predictor.BlockPredictors.{BlockPredictors}
use Rattle.assembly.specs.declared.context.MacroblockTextureContext.{MacroblockTextureContext}
use Rattle.macroblock.specs.WholeAnswer.{samples_out, whole_answer}
use Rattle.vaxembro.specs.Answer.{answer_after}
use Rattle.vaxembro.specs.Fields.{header_length, left_whole, told_whole, whole_header_out, whole_left}
use Rattle.vaxembro.specs.declared.answer.Told.{Told}
use Rattle.numbers.proofs.Tests.{flag_passes, flag_refuses, true_both}
use Rattle.vaxembro.proofs.RoomLaws.{first_long, header_short, long-is, matrix-long, rest_short, short_is}
use Rattle.std.specs.Prelude.{Result}
use Rattle.macroblock.specs.declared.whole.WholeDecoded.{WholeDecoded}
use Rattle.assembly.specs.declared.error.BlockAssemblyError.{BlockAssemblyError}
use Rattle.vaxembro.proofs.whole.vaxembro_decode_intra_macroblock_with_header.Goals as goal

-- what each lent number says, put in its place
all_is : {A : Type 0} (f : Bool → Bool → MacroblockTextureContext → BlockPredictors → List (List ℕ) → A)
    {u u' v v' : Bool} {x x' : MacroblockTextureContext} {n n' : BlockPredictors} {w w' : List (List ℕ)}
    → u ≡ u' → v ≡ v' → x ≡ x' → n ≡ n' → w ≡ w' → f u v x n w ≡ f u' v' x' n' w'
all_is f b c d e g = λ i. f (b i) (c i) (d i) (e i) (g i)

-- all that is left, each part by itself
left_is : {n n' : ℕ} {xs xs' h h' : List ℤ} {a a' : List ℕ} → n ≡ n' → xs ≡ xs' → h ≡ h' → a ≡ a' → whole_left n xs h a ≡ whole_left n' xs' h' a'
left_is e f g k = λ i. whole_left (e i) (f i) (g i) (k i)

pub returns-then-not-long_enough : goal.returns-then-not-long_enough
unfolding left_whole
returns-then-not-long_enough c =
    let a = c.args in
    let e = rest_short (length a.header.now) (flag_refuses c.long_enough.ensures c.if-not-long_enough.true) in
    let decoded = short_is _ e in
    let told = c.refused-short.ensures ∙ ap (λ (y : Result WholeDecoded BlockAssemblyError). told_whole y a.at) decoded in
    left_is
    (c.tell.ensures.0 ∙ ap (λ (y : Told). y.number) told)
    (short_is _ e)
    (ap (λ (y : Result WholeDecoded BlockAssemblyError). whole_header_out y a.header.now) decoded)
    (c.tell.ensures.1 ∙ ap (λ (y : Told). answer_after y a.answer.now) told)

pub returns-then-header-lt-HEADER : goal.returns-then-header-lt-HEADER
unfolding left_whole
returns-then-header-lt-HEADER c =
    let a = c.args in
    let e = header_short (length a.header.now) (flag_passes c.long_enough.ensures c.if-not-long_enough.false) c.if-header-lt-HEADER.true in
    let decoded = short_is _ e in
    let told = c.refused-short-then-header-lt-HEADER.ensures ∙ ap (λ (y : Result WholeDecoded BlockAssemblyError). told_whole y a.at) decoded in
    left_is
    (c.tell-then-header-lt-HEADER.ensures.0 ∙ ap (λ (y : Told). y.number) told)
    (short_is _ e)
    (ap (λ (y : Result WholeDecoded BlockAssemblyError). whole_header_out y a.header.now) decoded)
    (c.tell-then-header-lt-HEADER.ensures.1 ∙ ap (λ (y : Told). answer_after y a.answer.now) told)

pub neighbours_of-near-requires : goal.neighbours_of-near-requires
neighbours_of-near-requires c = first_long 21 _ _ _ (flag_passes c.long_enough.ensures c.if-not-long_enough.false)

pub matrix_of-w-requires : goal.matrix_of-w-requires
matrix_of-w-requires c = matrix-long 21 _ _ _ (flag_passes c.long_enough.ensures c.if-not-long_enough.false)

pub returns : goal.returns
unfolding left_whole
returns c =
    let a = c.args in
    let bytes = a.«data».now in
    let samples = a.samples.now in
    let e = true_both (flag_passes c.long_enough.ensures c.if-not-long_enough.false) (le-leb header_length (length a.header.now) c.if-header-lt-HEADER.false) in
    let r = c.decode_intra_macroblock_with_header-d.ensures in
    let decoded = long-is _ e (r.answer ∙ all_is (λ (o p : Bool) (y : MacroblockTextureContext) (z : BlockPredictors) (m : List (List ℕ)). whole_answer bytes a.at o p y z m samples) c.use_intra_dc_vlc-dc_coded.ensures c.reversible_vlc-rev.ensures c.texture_context_of-ctx.ensures c.neighbours_of-near.ensures c.matrix_of-w.ensures) in
    let told = c.told_whole-t.ensures ∙ ap (λ (y : Result WholeDecoded BlockAssemblyError). told_whole y a.at) decoded in
    left_is
    (c.tell-2.ensures.0 ∙ ap (λ (y : Told). y.number) told)
    (long-is _ e (r.samples ∙ all_is (λ (o p : Bool) (y : MacroblockTextureContext) (z : BlockPredictors) (m : List (List ℕ)). samples_out bytes a.at o p y z m samples) c.use_intra_dc_vlc-dc_coded.ensures c.reversible_vlc-rev.ensures c.texture_context_of-ctx.ensures c.neighbours_of-near.ensures c.matrix_of-w.ensures))
    (c.put_whole.ensures ∙ ap (λ (y : Result WholeDecoded BlockAssemblyError). whole_header_out y a.header.now) decoded)
    (c.tell-2.ensures.1 ∙ ap (λ (y : Told). answer_after y a.answer.now) told)
