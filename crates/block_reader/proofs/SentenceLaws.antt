-- What a block's reading tells of its sentence. Assumes nothing.
use mathlib.Core.Bool.{Bool}
use mathlib.Core.List.{List}
use mathlib.Core.Path.{◌≡◌, ap, refl, sym, ◌∙◌}
use Prim.Native.Nat.{ℕ}
use native.Mathlib.Omega.{arith}
use lib.IntN.{ℤ}
use Rattle.bits.specs.Bits.{Bits, bits_from}
use Rattle.bits.specs.declared.cursor.Cursor.{Cursor}
use Rattle.codes.specs.declared.dc_size.DcComponent.{DcComponent}
use Rattle.events.specs.declared.spelling.Spellings.{Spellings}
use Rattle.sentences.proofs.CountLaws.{counts_of}
use Rattle.sentences.proofs.Sentences.{block_sentences}
use Rattle.fields.specs.Answer.{after}
use Rattle.sentences.specs.Macroblock.{GoodBlock, Parts}
use Rattle.sentences.specs.MacroblockReader.{read_block}
use Rattle.fields.specs.Reader.{Res, ok, no}
use Rattle.fields.specs.declared.error.TextureParseError.{TextureParseError}
use Rattle.block_reader.specs.Reading.{parts_at, parts_read, qfs_of}
use Rattle.block_reader.specs.declared.read.PlacesRead.{PlacesRead}
use Rattle.numbers.proofs.Parts.{ok-parts}
use Rattle.std.specs.Prelude.{Err, Ok, Result}

abbrev Answer : Type 0
Answer = Result (Cursor × Spellings) TextureParseError

pub record Sentence (d : List ℕ) (at : ℕ) (m : DcComponent) (coded dc_coded rev : Bool) (qfs : List ℤ) (next : Cursor) (n : Spellings) : Type 0 where
  pub parts : Parts
  pub rest : Bits
  pub read : read_block dc_coded rev (m, coded) (bits_from d at) ≡ ok parts rest
  pub place : next ≡ after d rest
  pub qfs-is : qfs ≡ qfs_of m dc_coded parts
  pub counts_are : n ≡ counts_of parts
  pub good : GoodBlock dc_coded rev (m, coded) parts

module _ (d : List ℕ) (at : ℕ) (m : DcComponent) (coded dc_coded rev : Bool) (one : PlacesRead) (q : one ≡ parts_at d at m coded dc_coded rev) where
  pub sentence : {next : Cursor} {n : Spellings} → one.answer ≡ Ok (next, n) → Sentence d at m coded dc_coded rev one.qfs next n
  sentence {next} {n} f = go (read_block dc_coded rev (m, coded) (bits_from d at)) refl q
    where
      go : (y : Res Parts) → read_block dc_coded rev (m, coded) (bits_from d at) ≡ y → one ≡ parts_read d m dc_coded y → Sentence d at m coded dc_coded rev one.qfs next n
      go (ok s r) e g =
          let a : ◌≡◌ {A = Answer} (Ok (next, n)) (Ok (after d r, counts_of s)) = sym f ∙ ap (λ (x : PlacesRead). x.answer) g in
          let k : one.qfs ≡ qfs_of m dc_coded s = ap (λ (x : PlacesRead). x.qfs) g in
          let p : next ≡ after d r = (ok-parts a).0 in
          let c : n ≡ counts_of s = (ok-parts a).1 in
          record {
            parts = s;
            rest = r;
            read = e;
            place = p;
            qfs-is = k;
            counts_are = c;
            good = ((block_sentences dc_coded rev (m, coded)).begins (bits_from d at) s r e).0;
          }
      go (no w) e g =
          let a : ◌≡◌ {A = Answer} (Ok (next, n)) (Err w) = sym f ∙ ap (λ (x : PlacesRead). x.answer) g in
          absurd (let z : ◌≡◌ {A = ℕ} 0 1 = cc in omega arith)

  pub none : {e : TextureParseError} → one.answer ≡ Err e → read_block dc_coded rev (m, coded) (bits_from d at) ≡ no e
  none {e} f = go (read_block dc_coded rev (m, coded) (bits_from d at)) q
    where
      go : (y : Res Parts) → one ≡ parts_read d m dc_coded y → y ≡ no e
      go (ok s r) g =
          let a : ◌≡◌ {A = Answer} (Err e) (Ok (after d r, counts_of s)) = sym f ∙ ap (λ (x : PlacesRead). x.answer) g in
          absurd (let z : ◌≡◌ {A = ℕ} 0 1 = cc in omega arith)
      go (no n) g =
          let a : ◌≡◌ {A = Answer} (Err e) (Err n) = sym f ∙ ap (λ (x : PlacesRead). x.answer) g in
          let k : n ≡ e = cc in
          ap no k
