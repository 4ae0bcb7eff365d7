use Rattle.std.proofs.Common.{◌≡◌, List, ℕ, ◌++◌, length, map, string_bytes, subst, sym}
use Rattle.std.proofs.lemmas.List.{length-map}
use Rattle.std.specs.List.{flat_map}
use Rattle.std.proofs.lemmas.Result.{err_from_is_err_and}
use Rattle.byteorder.specs.Endian.{big_bytes}
use Rattle.journal.specs.Adding.{AddsPrefix}
use Rattle.journal.specs.Form.{IsText}
use Rattle.journal.specs.Text.{magic, counted, head_text}
use Rattle.journal.specs.inside.Writing.{Adds}
use Rattle.journal.proofs.Gains.{prefix_first, adds_then}
use Rattle.journal.proofs.Texts.{All-unmap, texts_of}
use Rattle.journal.proofs.writing.put_head.Goals as goal

pub returns-in_err-put_counts : goal.returns-in_err-put_counts
unfolding head_text
returns-in_err-put_counts c =
    let p = err_from_is_err_and c.from_residual.result c.from_residual.ensures.1 in
    let args = c.args.args.now in
    let env = c.args.env.now in
    let texts = flat_map counted (map string_bytes args) ++ (flat_map counted (map string_bytes env) ++ c.args.random) in
    let P : ℕ → ℕ → Type 0 = λ n m. AddsPrefix (magic ++ (big_bytes 4 n ++ big_bytes 4 m)) c.args.out.now.items c.put_counts.new.out.items in
    let n : length (map string_bytes args) ≡ length args = length-map args string_bytes in
    let m : length (map string_bytes env) ≡ length env = length-map env string_bytes in
    let first = subst (λ (k : ℕ). P k (length env)) (sym n) c.in_err-put_counts.ensures in
    let both = subst (P (length (map string_bytes args))) (sym m) first in
    rw p.1 (prefix_first (magic ++ (big_bytes 4 (length (map string_bytes args)) ++ big_bytes 4 (length (map string_bytes env)))) texts c.args.out.now.items c.put_counts.new.out.items both)

pub put_all_texts-requires-clause-args : goal.put_all_texts-requires-clause-args
put_all_texts-requires-clause-args c = All-unmap IsText string_bytes c.args.args.now c.requires.args_texts

pub put_all_texts-requires-clause-env : goal.put_all_texts-requires-clause-env
put_all_texts-requires-clause-env c = All-unmap IsText string_bytes c.args.env.now c.requires.env_texts

pub returns : goal.returns
unfolding head_text
returns c =
    let args = c.args.args.now in
    let env = c.args.env.now in
    let P : List ℕ → List ℕ → Type 0 = λ a e. Adds (a ++ (e ++ c.args.random)) c.put_all_texts.result c.put_counts.new.out.items c.put_all_texts.new.out.items in
    let first = subst (λ (a : List ℕ). P a (flat_map (λ text. counted (string_bytes text)) env)) (texts_of counted string_bytes args) c.put_all_texts.ensures in
    let both = subst (P (flat_map counted (map string_bytes args))) (texts_of counted string_bytes env) first in
    let Q : ℕ → ℕ → Type 0 = λ n m. c.put_counts.new.out.items ≡ c.args.out.now.items ++ (magic ++ (big_bytes 4 n ++ big_bytes 4 m)) in
    let n : length (map string_bytes args) ≡ length args = length-map args string_bytes in
    let m : length (map string_bytes env) ≡ length env = length-map env string_bytes in
    let one = subst (λ (k : ℕ). Q k (length env)) (sym n) c.in_ok-put_counts.ensures in
    let counts = subst (Q (length (map string_bytes args))) (sym m) one in
    adds_then (magic ++ (big_bytes 4 (length (map string_bytes args)) ++ big_bytes 4 (length (map string_bytes env)))) (flat_map counted (map string_bytes args) ++ (flat_map counted (map string_bytes env) ++ c.args.random)) c.put_all_texts.result c.args.out.now.items c.put_counts.new.out.items c.put_all_texts.new.out.items counts both
