-- `vaxembro::whole::vaxembro_decode_macroblock_with_header` meets its contract: what the lent numbers say, handed to the picture. Assumes nothing.
use mathlib.Core.List.{List}
use mathlib.Core.Path.{◌≡◌, ap, ap₂, ◌∙◌}
use Prim.Native.Nat.{ℕ}
use borrow.Author.Rules.{rules}
use borrow.Author.Tests.{le-leb}
use lib.IntN.{ℤ}
use lib.ListN.{length}
use Rattle.picture.specs.Whole.{Bare, answer_out, bare, samples_out, store_out}
use Rattle.picture_state.specs.declared.picture.MacroblockContext.{MacroblockContext}
use Rattle.picture_state.specs.declared.picture.Picture.{Picture}
use Rattle.vaxembro.specs.Answer.{answer_after}
use Rattle.vaxembro.specs.Fields.{header_length, left_whole_in, told_whole_in, whole_header_out_in, whole_in, whole_state_out}
use Rattle.vaxembro.specs.declared.answer.Told.{Told}
use Rattle.numbers.proofs.Tests.{flag_passes, flag_refuses, true_both}
use Rattle.vaxembro.proofs.RoomLaws.{first_long, header_short, long-is, matrix-long, rest_short, short_is}
use Rattle.std.specs.Prelude.{Result}
use Rattle.picture.specs.declared.whole.PictureWholeDecoded.{PictureWholeDecoded}
use Rattle.assembly.specs.declared.error.BlockAssemblyError.{BlockAssemblyError}
use Rattle.vaxembro.proofs.whole.vaxembro_decode_macroblock_with_header.Goals as goal

-- what each lent number says, put in its place
bare-is : (d : List ℕ) (at : ℕ) (s : List ℤ) {m m' : MacroblockContext} {w w' : List (List ℕ)} → m ≡ m' → w ≡ w' → bare d at m w s ≡ bare d at m' w' s
bare-is d at s f g = λ i. bare d at (f i) (g i) s

-- all that is left, each part by itself
left_is : {n n' : ℕ} {s s' : List ℕ} {xs xs' st st' h h' : List ℤ} {a a' : List ℕ} → n ≡ n' → s ≡ s' → xs ≡ xs' → st ≡ st' → h ≡ h' → a ≡ a' → whole_in n s xs st h a ≡ whole_in n' s' xs' st' h' a'
left_is e f g h k l = λ i. whole_in (e i) (f i) (g i) (h i) (k i) (l i)

pub returns-then-not-long_enough : goal.returns-then-not-long_enough
unfolding left_whole_in
returns-then-not-long_enough c =
    let a = c.args in
    let e = rest_short (length a.header.now) (flag_refuses c.long_enough.ensures c.if-not-long_enough.true) in
    let decoded = short_is _ e in
    let told = c.refused-short.ensures ∙ ap (λ (y : Result PictureWholeDecoded BlockAssemblyError). told_whole_in y a.at) decoded in
    left_is
    (c.tell.ensures.0 ∙ ap (λ (y : Told). y.number) told)
    (ap (λ (y : Result PictureWholeDecoded BlockAssemblyError). whole_state_out y a.state.now) decoded)
    (short_is _ e)
    (short_is _ e)
    (ap (λ (y : Result PictureWholeDecoded BlockAssemblyError). whole_header_out_in y a.header.now) decoded)
    (c.tell.ensures.1 ∙ ap (λ (y : Told). answer_after y a.answer.now) told)

pub returns-then-header-lt-HEADER : goal.returns-then-header-lt-HEADER
unfolding left_whole_in
returns-then-header-lt-HEADER c =
    let a = c.args in
    let e = header_short (length a.header.now) (flag_passes c.long_enough.ensures c.if-not-long_enough.false) c.if-header-lt-HEADER.true in
    let decoded = short_is _ e in
    let told = c.refused-short-then-header-lt-HEADER.ensures ∙ ap (λ (y : Result PictureWholeDecoded BlockAssemblyError). told_whole_in y a.at) decoded in
    left_is
    (c.tell-then-header-lt-HEADER.ensures.0 ∙ ap (λ (y : Told). y.number) told)
    (ap (λ (y : Result PictureWholeDecoded BlockAssemblyError). whole_state_out y a.state.now) decoded)
    (short_is _ e)
    (short_is _ e)
    (ap (λ (y : Result PictureWholeDecoded BlockAssemblyError). whole_header_out_in y a.header.now) decoded)
    (c.tell-then-header-lt-HEADER.ensures.1 ∙ ap (λ (y : Told). answer_after y a.answer.now) told)

pub picture_of-p-requires : goal.picture_of-p-requires
picture_of-p-requires c = first_long 5 _ _ _ (flag_passes c.long_enough.ensures c.if-not-long_enough.false)

pub matrix_of-w-requires : goal.matrix_of-w-requires
matrix_of-w-requires c = matrix-long 5 _ _ _ (flag_passes c.long_enough.ensures c.if-not-long_enough.false)

pub onward-requires : goal.onward-requires
onward-requires c = first_long 5 _ _ _ (flag_passes c.long_enough.ensures c.if-not-long_enough.false)

pub returns : goal.returns
unfolding left_whole_in
returns c =
    let a = c.args in
    let store = a.store.now in
    let x = bare-is a.«data».now a.at a.samples.now c.context_of-m.ensures c.matrix_of-w.ensures in
    let q = c.picture_of-p.ensures in
    let e = true_both (flag_passes c.long_enough.ensures c.if-not-long_enough.false) (le-leb header_length (length a.header.now) c.if-header-lt-HEADER.false) in
    let r = c.decode_macroblock_with_header-d.ensures in
    let decoded = long-is _ e (r.answer ∙ ap₂ (λ (u : Picture) (y : Bare). answer_out u y store) q x) in
    let told = c.told_whole_in-t.ensures ∙ ap (λ (y : Result PictureWholeDecoded BlockAssemblyError). told_whole_in y a.at) decoded in
    left_is
    (c.tell-2.ensures.0 ∙ ap (λ (y : Told). y.number) told)
    (c.onward.ensures ∙ ap (λ (y : Result PictureWholeDecoded BlockAssemblyError). whole_state_out y a.state.now) decoded)
    (long-is _ e (r.samples ∙ ap₂ (λ (u : Picture) (y : Bare). samples_out u y store) q x))
    (long-is _ e (r.store ∙ ap₂ (λ (u : Picture) (y : Bare). store_out u y store) q x))
    (c.put_whole_in.ensures ∙ ap (λ (y : Result PictureWholeDecoded BlockAssemblyError). whole_header_out_in y a.header.now) decoded)
    (c.tell-2.ensures.1 ∙ ap (λ (y : Told). answer_after y a.answer.now) told)
