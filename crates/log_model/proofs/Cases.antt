-- The worked logs hold, each with its own number: where one does not, the prover refuses the term with that number.
use Rattle.model.specs.Table.{held, EachFrom}
use Rattle.log_model.specs.Cases.{is_rerun, log_tables, tie_logs, is_share, shares}

pub shares_hold : EachFrom is_share 1 shares
unfolding is_share
shares_hold = (held 1, (held 2, (held 3, (held 4, (held 5, (held 6, (held 7, (held 8, tt))))))))

pub logs_hold : EachFrom is_rerun 1 log_tables
unfolding is_rerun
logs_hold = (held 1, (held 2, (held 3, (held 4, (held 5, (held 6, (held 7, (held 8, (held 9, (held 10, (held 11, (held 12, (held 13, (held 14, (held 15, (held 16, (held 17, (held 18, (held 19, (held 20, (held 21, (held 22, (held 23, (held 24, (held 25, (held 26, (held 27, (held 28, (held 29, (held 30, (held 31, (held 32, tt))))))))))))))))))))))))))))))))

pub tie_logs_hold : EachFrom is_rerun 1 tie_logs
unfolding is_rerun
tie_logs_hold = (held 1, (held 2, (held 3, tt)))
