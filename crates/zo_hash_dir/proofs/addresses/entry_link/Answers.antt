use Rattle.zo_hash_dir.proofs.Allowed.{entry_link_is}
use Rattle.zo_hash_dir.proofs.addresses.entry_link.Goals as goal

pub returns-then-word-eq0-2 : goal.returns-then-word-eq0-2
returns-then-word-eq0-2 c = entry_link_is c.args.word c.of.result c.if-word-lt-BEFORE_PLACES.false c.if-word-eq0-2.true c.of.ensures.end c.of.ensures.to c.of.ensures.astray
