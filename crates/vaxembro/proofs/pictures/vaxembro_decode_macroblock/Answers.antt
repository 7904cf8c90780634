-- `vaxembro::pictures::vaxembro_decode_macroblock` meets its contract: what the lent numbers say, handed to the picture. Assumes nothing.
use mathlib.Core.List.{List}
use mathlib.Core.Path.{◌≡◌, ap, ap₂, ◌∙◌}
use Prim.Native.Nat.{ℕ}
use borrow.Author.Rules.{rules}
use lib.IntN.{ℤ}
use Rattle.headers.specs.declared.header.MacroblockHeader.{MacroblockHeader}
use Rattle.picture.specs.Call.{Input, answer_out, given, samples_out, store_out}
use Rattle.picture_state.specs.declared.picture.MacroblockContext.{MacroblockContext}
use Rattle.picture_state.specs.declared.picture.Picture.{Picture}
use Rattle.vaxembro.specs.Answer.{answer_after, told_of}
use Rattle.vaxembro.specs.Calls.{left, left_in, state_out}
use Rattle.vaxembro.specs.declared.answer.Told.{Told}
use Rattle.numbers.proofs.Tests.{flag_passes, flag_refuses}
use Rattle.vaxembro.proofs.RoomLaws.{first_long, long-is, matrix-long, short_is}
use Rattle.std.specs.Prelude.{Result}
use Rattle.picture.specs.declared.call.PictureDecoded.{PictureDecoded}
use Rattle.assembly.specs.declared.error.BlockAssemblyError.{BlockAssemblyError}
use Rattle.vaxembro.proofs.pictures.vaxembro_decode_macroblock.Goals as goal

-- what each lent number says, put in its place
given_is : (d : List ℕ) (at : ℕ) (s : List ℤ) {h h' : MacroblockHeader} {m m' : MacroblockContext} {w w' : List (List ℕ)} → h ≡ h' → m ≡ m' → w ≡ w' → given d at h m w s ≡ given d at h' m' w' s
given_is d at s e f g = λ i. given d at (e i) (f i) (g i) s

-- all that is left, each part by itself
left_is : {n n' : ℕ} {s s' : List ℕ} {xs xs' st st' : List ℤ} {a a' : List ℕ} → n ≡ n' → s ≡ s' → xs ≡ xs' → st ≡ st' → a ≡ a' → left n s xs st a ≡ left n' s' xs' st' a'
left_is e f g h k = λ i. left (e i) (f i) (g i) (h i) (k i)

pub returns-then-not-long_enough : goal.returns-then-not-long_enough
unfolding left_in
returns-then-not-long_enough c =
    let a = c.args in
    let e = flag_refuses c.long_enough.ensures c.if-not-long_enough.true in
    let decoded = short_is _ e in
    let told = c.refused-short.ensures ∙ ap (λ (y : Result PictureDecoded BlockAssemblyError). told_of y a.at) decoded in
    left_is
    (c.tell.ensures.0 ∙ ap (λ (y : Told). y.number) told)
    (ap (λ (y : Result PictureDecoded BlockAssemblyError). state_out y a.state.now) decoded)
    (short_is _ e)
    (short_is _ e)
    (c.tell.ensures.1 ∙ ap (λ (y : Told). answer_after y a.answer.now) told)

pub picture_of-p-requires : goal.picture_of-p-requires
picture_of-p-requires c = first_long 5 _ _ _ (flag_passes c.long_enough.ensures c.if-not-long_enough.false)

pub matrix_of-w-requires : goal.matrix_of-w-requires
matrix_of-w-requires c = matrix-long 5 _ _ _ (flag_passes c.long_enough.ensures c.if-not-long_enough.false)

pub onward-requires : goal.onward-requires
onward-requires c = first_long 5 _ _ _ (flag_passes c.long_enough.ensures c.if-not-long_enough.false)

pub returns : goal.returns
unfolding left_in
returns c =
    let a = c.args in
    let store = a.store.now in
    let x = given_is a.«data».now a.at a.samples.now c.header_of-header.ensures c.context_of-m.ensures c.matrix_of-w.ensures in
    let q = c.picture_of-p.ensures in
    let e = flag_passes c.long_enough.ensures c.if-not-long_enough.false in
    let r = c.decode_macroblock-d.ensures in
    let decoded = long-is _ e (r.answer ∙ ap₂ (λ (u : Picture) (y : Input). answer_out u y store) q x) in
    let told = c.told_in_picture-t.ensures ∙ ap (λ (y : Result PictureDecoded BlockAssemblyError). told_of y a.at) decoded in
    left_is
    (c.tell-2.ensures.0 ∙ ap (λ (y : Told). y.number) told)
    (c.onward.ensures ∙ ap (λ (y : Result PictureDecoded BlockAssemblyError). state_out y a.state.now) decoded)
    (long-is _ e (r.samples ∙ ap₂ (λ (u : Picture) (y : Input). samples_out u y store) q x))
    (long-is _ e (r.store ∙ ap₂ (λ (u : Picture) (y : Input). store_out u y store) q x))
    (c.tell-2.ensures.1 ∙ ap (λ (y : Told). answer_after y a.answer.now) told)
