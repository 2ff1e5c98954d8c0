-- Documents that hold the names at the end of one data text have the same names.
use Rattle.std.proofs.Common.{◌≡◌, ℕ, List, [], map, Some, refl, sym, ap, ◌∙◌}
use Rattle.std.specs.Prelude.{Contains, unwrap_or}
use Rattle.std.specs.Cmp.Lexicographic.{slice_cmp, nat_list_cmp_total}
use Rattle.std.specs.Ordering.{nat_cmp}
use Rattle.std.proofs.lemmas.Map.Lookups.{exact_bytes}
use Rattle.std.proofs.lemmas.Simd.{map-map}
use Rattle.shx_term.specs.declared.term.Scope.TheVariants.{Data}
use Rattle.shx_term.specs.InOrder.{IsExactOrder, Lists}
use Rattle.shx_term.proofs.InOrderLemmas.{same_lists}
use Rattle.shx_term.proofs.MemberLemmas.{Contains-map, Contains-from_map, map_agree}
use Rattle.ttl_meaning.specs.declared.document.Document.{Document}
use Rattle.ttl_meaning.specs.declared.document.Prefix.{Prefix}
use Rattle.ttl_meaning.specs.inner.DocumentOf.{IsPrefixTable}
use Rattle.ttl_meaning.specs.InForce.{binding}
use Rattle.ttl_meaning.specs.State.{Binding, State, first_state}
use Rattle.ttl_meaning.specs.Terms.{namespace_of}
use Rattle.script_lines.specs.SameNames.{HaveSameNames}
use Rattle.shape_text.specs.Names.{HasNamesOf}

text_order : IsExactOrder (slice_cmp nat_cmp)
text_order = record { total = nat_list_cmp_total; exact = exact_bytes }

abbrev IsBound : State → List ℕ → Type 0
IsBound end name = (iri : List ℕ) × (namespace_of name end.prefixes ≡ Some iri)

abbrev bound : State → List ℕ → Binding
bound end name = record { name = name; iri = unwrap_or (namespace_of name end.prefixes) [] }

abbrev names_of : List Prefix → List (List ℕ)
names_of table = map (λ (p : Prefix). p.name) table

-- the names in a table of prefixes decide it
module _ (end : State) (table : List Prefix) (is : IsPrefixTable end table) where
  named_in : (name : List ℕ) → Contains (names_of table) name → IsBound end name
  named_in name c =
      let found = Contains-from_map (λ (p : Prefix). p.name) table name c in
      (found.0.iri, ap (λ n. namespace_of n end.prefixes) found.2 ∙ (is.each found.0).0 found.1)

  named_of : (name : List ℕ) → IsBound end name → Contains (names_of table) name
  named_of name (iri, found) =
      let prefix : Prefix = record { name = name; iri = iri } in
      Contains-map (λ (p : Prefix). p.name) table prefix ((is.each prefix).1 found)

  names_listed : Lists (slice_cmp nat_cmp) (IsBound end) (names_of table)
  names_listed = record { sorted = is.sorted; each = λ name. (named_in name, named_of name) }

  bindings_by_name : map binding table ≡ map (bound end) (names_of table)
  bindings_by_name =
      map_agree binding (λ (p : Prefix). bound end p.name) table (λ p c. rw ((is.each p).0 c) refl)
      ∙ sym (map-map (bound end) (λ (p : Prefix). p.name) table)

module _ (end : State) (a b : Document) (one : HasNamesOf end a) (other : HasNamesOf end b) where
  same_bindings : map binding a.prefixes.items ≡ map binding b.prefixes.items
  same_bindings =
      let names : names_of a.prefixes.items ≡ names_of b.prefixes.items =
      same_lists (slice_cmp nat_cmp) text_order (names_of a.prefixes.items) (names_of b.prefixes.items)
      (names_listed end a.prefixes.items one.prefixes) (names_listed end b.prefixes.items other.prefixes) in
      bindings_by_name end a.prefixes.items one.prefixes
      ∙ ap (map (bound end)) names
      ∙ sym (bindings_by_name end b.prefixes.items other.prefixes)

  pub same_names : HaveSameNames a b
  same_names =
      let base : a.base ≡ b.base = one.base ∙ sym other.base in
      record {
        force = λ i. record (first_state Data (base i)) { prefixes = same_bindings i };
        labels = same_lists (slice_cmp nat_cmp) text_order a.labels.items b.labels.items one.labels
            other.labels;
        anonymous = one.anonymous ∙ sym other.anonymous;
      }
