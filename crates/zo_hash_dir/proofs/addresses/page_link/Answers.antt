use Rattle.zo_hash_dir.proofs.Allowed.{page_link_is}
use Rattle.zo_hash_dir.proofs.addresses.page_link.Goals as goal

pub returns-then-word-eq0 : goal.returns-then-word-eq0
returns-then-word-eq0 c = page_link_is c.args.word c.of.result c.if-word-eq0.true c.of.ensures.end c.of.ensures.to c.of.ensures.astray
