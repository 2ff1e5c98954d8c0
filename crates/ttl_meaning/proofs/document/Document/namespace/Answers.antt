use Rattle.std.proofs.Common.{◌<◌, length, sym, subst, rules, Ok, Err}
use Rattle.std.specs.Cmp.Lexicographic.{slice_cmp}
use Rattle.std.specs.Ordering.{nat_cmp}
use Rattle.std.proofs.lemmas.Fn.{always_returns_same}
use Rattle.ttl_meaning.specs.declared.document.Prefix.{Prefix}
use Rattle.ttl_meaning.proofs.SearchLemmas.{IsSearched, found_none, namespace_found, namespace_none}
use Rattle.ttl_meaning.proofs.document.Document.namespace.Goals as goal

pub returns-in-Ok : goal.returns-in-Ok
returns-in-Ok c =
    let table = c.args.self.now.prefixes.items in
    let name = c.args.name.now in
    let by = c.in-Ok.ensures.position (λ (p : Prefix). slice_cmp nat_cmp p.name name)
    (always_returns_same _ _ _ (λ a r g called. search rules)) in
    sym (namespace_found name table c.in-Ok.at c.index.result.now c.args.self.now.names_ascend
    (subst (λ xs. c.in-Ok.at < length xs) c.deref.ensures.value c.in-Ok.ensures.bound)
    (subst (λ xs. IsSearched (λ (p : Prefix). p.name) xs name (Ok c.in-Ok.at)) c.deref.ensures.value by)
    c.index.ensures)

pub returns-in-Err : goal.returns-in-Err
returns-in-Err c =
    let table = c.args.self.now.prefixes.items in
    let name = c.args.name.now in
    let at = c.in-Err.field-0 in
    let by = c.in-Err.ensures.position (λ (p : Prefix). slice_cmp nat_cmp p.name name)
    (always_returns_same _ _ _ (λ a r g called. search rules)) in
    sym (namespace_none name table (found_none (λ (p : Prefix). p.name) table name at
    c.args.self.now.names_ascend
    (subst (λ xs. IsSearched (λ (p : Prefix). p.name) xs name (Err at)) c.deref.ensures.value by)))
