-- A code of the tables of Annex B, however they are lent, is the reader's, and 17 is told only of fewer bits than the longest code has. Assumes nothing.
use mathlib.Core.List.{List}
use mathlib.Core.Path.{◌≡◌, subst₂}
use Prim.Native.Nat.{◌<◌, ◌≤◌, ℕ}
use native.Mathlib.Omega.{arith}
use lib.ListN.{length}
use Rattle.bits.specs.Bits.{Bits}
use Rattle.codes.proofs.CutLaws.{cbpy_few, dc-few, longest_of, mcbpc_few, rvlc-few, vlc_few}
use Rattle.codes.proofs.PrefixFree.{cbpy_prefix_free, cbpy_rows, dc_prefix_free, dc-rows, mcbpc_prefix_free, mcbpc_rows, rvlc_prefix_free, rvlc-rows, vlc_prefix_free, vlc_rows}
use Rattle.codes.specs.DcSize.{dc_codes, dc_lens}
use Rattle.codes.specs.Header.{cbpy_codes, cbpy_lens, mcbpc_codes, mcbpc_lens}
use Rattle.codes.specs.Rvlc.{rvlc_codes, rvlc_lens}
use Rattle.codes.specs.Tcoef.{vlc_codes, vlc_lens}
use Rattle.codes.specs.declared.dc_size.DcComponent.{DcComponent}
use Rattle.fields.proofs.CodeLaws.{GoodTable, code_read}
use Rattle.fields.proofs.TakeLaws.{ended-exactly}
use Rattle.fields.specs.Answer.{CodeRead, code_answer}
use Rattle.fields.specs.Inside.{invalid}
use Rattle.fields.specs.Reader.{code, no}
use Rattle.fields.specs.declared.code.CodeKind.TheVariants.{Header}
use Rattle.fields.specs.declared.error.TextureParseError.{TextureParseError}
use Rattle.fields.specs.declared.error.TextureParseError.TheVariants.{EndedInsideCode, InvalidDcSize, InvalidTcoef}
use Rattle.std.specs.Prelude.{Result}
use Rattle.bits.specs.declared.cursor.Cursor.{Cursor}

module _ (d : List ℕ) (at : ℕ) {cs ls : List ℕ} (g : Result (ℕ × Cursor) TextureParseError) where
  of_table : (cs' ls' : List ℕ) (width rows : ℕ) (err : ℕ → TextureParseError) → GoodTable width rows cs' ls' → cs ≡ cs' → ls ≡ ls'
      → CodeRead d at cs ls width rows err g → g ≡ code_answer d at cs' ls' width rows err
  of_table cs' ls' width rows err good e f x = code_read d at cs' ls' width rows err good g (subst₂ (λ (cs ls : List ℕ). CodeRead d at cs ls width rows err g) e f x)

  pub dc-code : (c : DcComponent) → cs ≡ dc_codes c → ls ≡ dc_lens c → CodeRead d at cs ls 13 13 InvalidDcSize g → g ≡ code_answer d at (dc_codes c) (dc_lens c) 13 13 InvalidDcSize
  dc-code c e f x =
      let n = dc-rows c in
      of_table (dc_codes c) (dc_lens c) 13 13 InvalidDcSize (omega arith, omega arith, omega arith, omega arith, dc_prefix_free c) e f x

  pub vlc_code : (rows : ℕ) → rows ≤ 103 → cs ≡ vlc_codes → ls ≡ vlc_lens → CodeRead d at cs ls 13 rows InvalidTcoef g → g ≡ code_answer d at vlc_codes vlc_lens 13 rows InvalidTcoef
  vlc_code rows h e f x =
      let n = vlc_rows in
      of_table vlc_codes vlc_lens 13 rows InvalidTcoef (omega arith, omega arith, omega arith, omega arith, vlc_prefix_free) e f x

  pub rvlc-code : cs ≡ rvlc_codes → ls ≡ rvlc_lens → CodeRead d at cs ls 16 170 InvalidTcoef g → g ≡ code_answer d at rvlc_codes rvlc_lens 16 170 InvalidTcoef
  rvlc-code e f x =
      let n = rvlc-rows in
      of_table rvlc_codes rvlc_lens 16 170 InvalidTcoef (omega arith, omega arith, omega arith, omega arith, rvlc_prefix_free) e f x

  pub mcbpc_code_lem : cs ≡ mcbpc_codes → ls ≡ mcbpc_lens → CodeRead d at cs ls 9 9 (invalid Header) g → g ≡ code_answer d at mcbpc_codes mcbpc_lens 9 9 (invalid Header)
  mcbpc_code_lem e f x =
      let n = mcbpc_rows in
      of_table mcbpc_codes mcbpc_lens 9 9 (invalid Header) (omega arith, omega arith, omega arith, omega arith, mcbpc_prefix_free) e f x

  pub cbpy_code_lem : cs ≡ cbpy_codes → ls ≡ cbpy_lens → CodeRead d at cs ls 6 16 (invalid Header) g → g ≡ code_answer d at cbpy_codes cbpy_lens 6 16 (invalid Header)
  cbpy_code_lem e f x =
      let n = cbpy_rows in
      of_table cbpy_codes cbpy_lens 6 16 (invalid Header) (omega arith, omega arith, omega arith, omega arith, cbpy_prefix_free) e f x

-- ---- how many bits are left at most where 17 is told

module _ (b : Bits) where
  pub dc-ended-few : (c : DcComponent) → code (dc_codes c) (dc_lens c) 13 13 InvalidDcSize b ≡ no EndedInsideCode → length b < longest_of c
  dc-ended-few c q =
      let n = dc-rows c in
      dc-few c b ((ended-exactly (dc_codes c) (dc_lens c) 13 13 InvalidDcSize (dc_prefix_free c) (omega arith) (λ w e. omega arith) b).0 q).1

  pub vlc_ended_few : (rows : ℕ) → rows ≤ 103 → code vlc_codes vlc_lens 13 rows InvalidTcoef b ≡ no EndedInsideCode → length b < 12
  vlc_ended_few rows h q =
      let n = vlc_rows in
      vlc_few rows b ((ended-exactly vlc_codes vlc_lens 13 rows InvalidTcoef vlc_prefix_free (omega arith) (λ w e. omega arith) b).0 q).1

  pub rvlc-ended-few : code rvlc_codes rvlc_lens 16 170 InvalidTcoef b ≡ no EndedInsideCode → length b < 15
  rvlc-ended-few q =
      let n = rvlc-rows in
      rvlc-few 170 b ((ended-exactly rvlc_codes rvlc_lens 16 170 InvalidTcoef rvlc_prefix_free (omega arith) (λ w e. omega arith) b).0 q).1

  pub mcbpc_ended_few : code mcbpc_codes mcbpc_lens 9 9 (invalid Header) b ≡ no EndedInsideCode → length b < 9
  mcbpc_ended_few q =
      let n = mcbpc_rows in
      mcbpc_few b ((ended-exactly mcbpc_codes mcbpc_lens 9 9 (invalid Header) mcbpc_prefix_free (omega arith) (λ w e. omega arith) b).0 q).1

  pub cbpy_ended_few : code cbpy_codes cbpy_lens 6 16 (invalid Header) b ≡ no EndedInsideCode → length b < 6
  cbpy_ended_few q =
      let n = cbpy_rows in
      cbpy_few b ((ended-exactly cbpy_codes cbpy_lens 6 16 (invalid Header) cbpy_prefix_free (omega arith) (λ w e. omega arith) b).0 q).1
