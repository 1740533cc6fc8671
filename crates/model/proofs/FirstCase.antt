-- The first worked case of document 01, which all others are computed after.
use Rattle.model.specs.Table.{held, Hold}
use Rattle.model.specs.Cases.{X, Y, accepts, advances, first_two}

-- A case is computed only once the one before it holds: a wrong definition is refused at the first row that it breaks.
pub after : {A B : Type 0} → A → B → B
after a b = b

pub first_two_hold : Hold first_two
unfolding Hold X Y accepts advances first_two
first_two_hold = (held 1, (held 2, (held 3, (held 4, (held 5, (held 6, (held 7, (held 8, (held 9, (held 10, (held 11, (held 12, (held 13, (held 14, (held 15, (held 16, (held 17, (held 18, (held 19, (held 20, (held 21, (held 22, (held 23, (held 24, (held 25, (held 26, (held 27, (held 28, (held 29, (held 30, (held 31, (held 32, (held 33, (held 34, tt))))))))))))))))))))))))))))))))))
