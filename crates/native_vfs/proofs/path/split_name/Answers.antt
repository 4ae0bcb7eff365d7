use Rattle.std.proofs.Common.{ap, subst, sym, ◌∙◌, ◌∷◌, take, drop, arith}
use Rattle.std.specs.List.{list_any, position_or_len}
use Rattle.kernel_core.specs.PathWalk.{components}
use Rattle.kernel_core.specs.ValidTree.{is_no_name_byte}
use Rattle.native_vfs.specs.inside.Texts.{is_nul, is_slash, AreBytes}
use Rattle.native_vfs.proofs.walks.Components.{components-first, name-plain, drop-plain, end-is, position-within, take-bytes}
use Rattle.native_vfs.proofs.path.split_name.Goals as goal

pub split_at-requires : goal.split_at-requires
split_at-requires c =
    let text = c.args.text.now in
    let at = end-is c.unwrap_or-end.result c.first_slash.result text c.unwrap_or-end.ensures c.first_slash.ensures in
    omega (arith, at, position-within text)

pub returns-clause-first : goal.returns-clause-first
returns-clause-first c =
    let text = c.args.text.now in
    let at = end-is c.unwrap_or-end.result c.first_slash.result text c.unwrap_or-end.ensures c.first_slash.ensures in
    components-first text c.requires.some c.requires.begins
    ∙ ap (λ name. name ∷ components (drop (position_or_len is_slash text) text)) (ap (λ n. take n text) (sym at) ∙ sym c.split_at.ensures.front)
    ∙ ap (λ rest. c.split_at.result.0.now ∷ rest)
    (ap (λ n. components (drop n text)) (sym at) ∙ ap components (sym c.split_at.ensures.back) ∙ sym c.without_slashes.ensures.same)

pub returns-clause-name : goal.returns-clause-name
returns-clause-name c =
    let text = c.args.text.now in
    let at = end-is c.unwrap_or-end.result c.first_slash.result text c.unwrap_or-end.ensures c.first_slash.ensures in
    ap (list_any is_no_name_byte) (c.split_at.ensures.front ∙ ap (λ n. take n text) at) ∙ name-plain text c.requires.plain

pub returns-clause-plain : goal.returns-clause-plain
returns-clause-plain c =
    let text = c.args.text.now in
    c.without_slashes.ensures.plain (ap (list_any is_nul) c.split_at.ensures.back ∙ drop-plain c.unwrap_or-end.result text c.requires.plain)

pub returns-clause-bytes : goal.returns-clause-bytes
returns-clause-bytes c =
    let bytes : AreBytes c.args.text.now = λ place. omega (arith, c.type_inv.text place) in
    subst AreBytes (sym c.split_at.ensures.front) (take-bytes c.unwrap_or-end.result c.args.text.now bytes)
