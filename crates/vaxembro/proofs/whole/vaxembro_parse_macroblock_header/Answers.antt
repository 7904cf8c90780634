-- `vaxembro::whole::vaxembro_parse_macroblock_header` meets its contract: what is read of the header, put into lent numbers. Assumes nothing.
use mathlib.Core.List.{List}
use mathlib.Core.Path.{◌≡◌, ap, ◌∙◌}
use Prim.Native.Nat.{ℕ}
use borrow.Author.Rules.{rules}
use lib.IntN.{ℤ}
use Rattle.vaxembro.specs.Answer.{answer_after}
use Rattle.vaxembro.specs.Fields.{header_length, header_out, left_header, left_of_header, told_of_header}
use Rattle.vaxembro.specs.declared.answer.Told.{Told}
use Rattle.numbers.proofs.Tests.{flag_passes, flag_refuses}
use Rattle.vaxembro.proofs.RoomLaws.{first_long, long-is, short_is}
use Rattle.std.specs.Prelude.{Result}
use Rattle.headers.specs.declared.parse.HeaderFields.{HeaderFields}
use Rattle.bits.specs.declared.cursor.Cursor.{Cursor}
use Rattle.assembly.specs.declared.error.BlockAssemblyError.{BlockAssemblyError}
use Rattle.vaxembro.proofs.whole.vaxembro_parse_macroblock_header.Goals as goal

-- all that is left, each part by itself
left_is : {n n' : ℕ} {h h' : List ℤ} {a a' : List ℕ} → n ≡ n' → h ≡ h' → a ≡ a' → left_header n h a ≡ left_header n' h' a'
left_is e f g = λ i. left_header (e i) (f i) (g i)

pub returns-then-not-long_enough : goal.returns-then-not-long_enough
unfolding left_of_header
returns-then-not-long_enough c =
    let a = c.args in
    let e = flag_refuses c.long_enough.ensures c.if-not-long_enough.true in
    let read = short_is _ e in
    let told = c.refused-short.ensures ∙ ap (λ (y : Result (HeaderFields × Cursor) BlockAssemblyError). told_of_header y a.at) read in
    left_is
    (c.tell.ensures.0 ∙ ap (λ (y : Told). y.number) told)
    (ap (λ (y : Result (HeaderFields × Cursor) BlockAssemblyError). header_out y a.header.now) read)
    (c.tell.ensures.1 ∙ ap (λ (y : Told). answer_after y a.answer.now) told)

pub put_read-requires : goal.put_read-requires
put_read-requires c = first_long header_length _ _ _ (flag_passes c.long_enough.ensures c.if-not-long_enough.false)

pub returns : goal.returns
unfolding left_of_header
returns c =
    let a = c.args in
    let read = long-is _ (flag_passes c.long_enough.ensures c.if-not-long_enough.false) c.parse_macroblock_header-r.ensures.value in
    let told = c.told_of_header-t.ensures ∙ ap (λ (y : Result (HeaderFields × Cursor) BlockAssemblyError). told_of_header y a.at) read in
    left_is
    (c.tell-2.ensures.0 ∙ ap (λ (y : Told). y.number) told)
    (c.put_read.ensures ∙ ap (λ (y : Result (HeaderFields × Cursor) BlockAssemblyError). header_out y a.header.now) read)
    (c.tell-2.ensures.1 ∙ ap (λ (y : Told). answer_after y a.answer.now) told)
