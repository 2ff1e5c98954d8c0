use Rattle.std.proofs.Common.{◌+◌, ◌-◌, ◌*◌, length}
use Rattle.ttl_tokens.specs.Form.{Maybe, Then}
use Rattle.ttl_tokens.specs.declared.token.TokenKind.TheVariants.{Semicolon, Comma}
use Rattle.ttl_meaning.specs.KeepsTerms.{KeepsTerms}
use Rattle.ttl_read.specs.Grammar.{mark, object, object_list, predicate_object_list, verb_objects}
use Rattle.ttl_read.specs.inner.Reads.{Advances}
use Rattle.ttl_read.specs.inner.Stops.{list_goes_on, predicates_go_on}
use Rattle.ttl_read.proofs.ReadLemmas.{Goes}
use Rattle.ttl_read.proofs.CollectionLemmas.{first_members, next_member, goes_without_close}
use Rattle.ttl_read.proofs.+objects.Given as goal

abbrev pub decreases-object::object : goal.decreases-object::object
decreases-object::object l = 10 * l.depth

abbrev pub decreases-object::object_list : goal.decreases-object::object_list
decreases-object::object_list l = 10 * l.depth + 1

abbrev pub decreases-triples::verb_objects : goal.decreases-triples::verb_objects
decreases-triples::verb_objects l = 10 * l.depth + 2

abbrev pub decreases-triples::more_objects : goal.decreases-triples::more_objects
decreases-triples::more_objects l = 10 * l.depth + 3

abbrev pub decreases-triples::predicate_object_list : goal.decreases-triples::predicate_object_list
decreases-triples::predicate_object_list l = 10 * l.depth + 4

abbrev pub decreases-collection::member : goal.decreases-collection::member
decreases-collection::member l = 10 * l.depth + 1

abbrev pub decreases-collection::members : goal.decreases-collection::members
decreases-collection::members l = 10 * l.depth + 2

abbrev pub decreases-collection::collection : goal.decreases-collection::collection
decreases-collection::collection l = 10 * l.depth + 3

abbrev pub decreases-collection::property_list : goal.decreases-collection::property_list
decreases-collection::property_list l = 10 * l.depth + 5

abbrev pub invariant-collection::members-loop-close : goal.invariant-collection::members-loop-close
invariant-collection::members-loop-close l = record {
  keeps : KeepsTerms l.fn.pool l.pool;
  on : Advances l.text l.fn.reader.tokens l.reader.tokens;
  goes : Goes l.text (first_members (object l.text l.depth)) (next_member (object l.text l.depth))
      goes_without_close l.fn.reader l.fn.pool l.reader l.pool;
}

abbrev pub decreases-collection::members-loop-close : goal.decreases-collection::members-loop-close
decreases-collection::members-loop-close l = length l.text - l.reader.tokens.place

abbrev pub invariant-object::object_list-loop-comma : goal.invariant-object::object_list-loop-comma
invariant-object::object_list-loop-comma l = record {
  keeps : KeepsTerms l.fn.pool l.pool;
  on : Advances l.text l.fn.reader.tokens l.reader.tokens;
  goes : Goes l.text (object_list (object l.text l.depth)) (Then (mark Comma) (object l.text l.depth))
      list_goes_on l.fn.reader l.fn.pool l.reader l.pool;
}

abbrev pub decreases-object::object_list-loop-comma : goal.decreases-object::object_list-loop-comma
decreases-object::object_list-loop-comma l = length l.text - l.reader.tokens.place

abbrev pub invariant-triples::predicate_object_list-loop-semicolon
    : goal.invariant-triples::predicate_object_list-loop-semicolon
invariant-triples::predicate_object_list-loop-semicolon l = record {
  keeps : KeepsTerms l.fn.pool l.pool;
  on : Advances l.text l.fn.reader.tokens l.reader.tokens;
  goes : Goes l.text (predicate_object_list l.text (object l.text l.depth))
      (Then (mark Semicolon) (Maybe (verb_objects l.text (object l.text l.depth)))) predicates_go_on
      l.fn.reader l.fn.pool l.reader l.pool;
}

abbrev pub decreases-triples::predicate_object_list-loop-semicolon
    : goal.decreases-triples::predicate_object_list-loop-semicolon
decreases-triples::predicate_object_list-loop-semicolon l = length l.text - l.reader.tokens.place
