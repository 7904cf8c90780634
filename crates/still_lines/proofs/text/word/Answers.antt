-- `still_lines::text::word` meets its contract: the word's bytes after those that were said. Assumes nothing.
use Rattle.std.proofs.Common.{◌≡◌, ◌∙◌, ◌+◌, ◌++◌, List, ap, arith, length, refl, rules, sym, take, ℕ}
use Rattle.std.proofs.lemmas.Slice.{take-put_mid}
use Rattle.still_lines.proofs.text.word.Goals as goal

pub returns : goal.returns
returns c =
    let t = c.args.t in
    let l : length t.bytes ≡ 256 = search rules in
    let e = c.copy_from_slice.ensures.after in (
      take-put_mid t.len _ t.bytes c.copy_from_slice.new.self _ (ap (λ (xs : List ℕ). t.len + length xs) (sym e)) (omega arith) ∙ ap (λ (xs : List ℕ). take t.len t.bytes ++ xs) e,
      refl,
    )
