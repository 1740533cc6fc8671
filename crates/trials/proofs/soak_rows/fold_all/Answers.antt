use Rattle.std.proofs.Common.{rules}
use Rattle.trials.proofs.soak_rows.Digests.{digest_fold}
use Rattle.trials.proofs.soak_rows.fold_all.Goals as goal

pub returns : goal.returns
returns c = rw (digest_fold c.args.digest c.args.bytes.now) (search rules)
