use Rattle.std.proofs.Common.{refl}
use Rattle.shx_outside.proofs.PatternLemmas.{regex_is_pattern}
use Rattle.shx_outside.proofs.pattern.Pattern.new.Goals as goal

pub returns : goal.returns
returns c = record {
  text_is = refl;
  flags_are = refl;
  is_pattern = regex_is_pattern c.args.regex c.args.flags c.requires.options c.requires.read;
}
