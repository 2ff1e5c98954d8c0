use Rattle.ttl_tokens.proofs.scan.next_token.Goals as goal

pub next_token_after-requires-clause-known : goal.next_token_after-requires-clause-known
next_token_after-requires-clause-known c = c.new.ensures c.args.text.now
