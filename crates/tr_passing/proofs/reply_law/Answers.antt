use Rattle.tr_passing.proofs.Replies.{reply_same}
use Rattle.tr_passing.proofs.reply_law.Goals as goal

pub returns : goal.returns
returns c = reply_same
