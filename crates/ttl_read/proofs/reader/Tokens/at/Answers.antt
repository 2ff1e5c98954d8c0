use Rattle.ttl_read.proofs.reader.Tokens.at.Goals as goal

pub next_token_after-next-requires-clause-known : goal.next_token_after-next-requires-clause-known
next_token_after-next-requires-clause-known c = c.new-ahead.ensures c.args.text.now
