-- Worked cases of document 02, (iii), "Shorter default due time", by hand: delay bounds of 9,000 and of 9,001 ticks, of orders with due-in 0 and with 18,000 written
-- out. The second simulator gives the same.
use Rattle.std.specs.Prelude.{List, [], ◌∷◌, replicate, pos}
use Rattle.model.specs.Calls.{quoting, quoting_format}
use Rattle.model.specs.Table.{Row, opens, gives, bounds, dues, in_step}
use Rattle.model.specs.Cases.{minus, order, accepts, late, quotes}
use Rattle.model.specs.FormatCases.{sheet_of, by_format, takes, too_late, tells}

-- Document 02, (iii): "the workshop needs a case on each side of 9,000". Costs of 3,000 and 6,000 make a delay bound of 6,000 + 3,000, and 3,001 and 6,000 one of
-- 9,001. Document 02, (iii): "lodges that relied on 18,000 write it out".
unfoldable pub sides_of_default : List Row
sides_of_default =
    opens 2 ∷ quotes (order 0 0 (3000 ∷ 6000 ∷ [])) 9000 (pos 0) ∷ accepts (order 0 0 (3000 ∷ 6000 ∷ [])) 1 9000 (pos 0)
    ∷ bounds (9000 ∷ []) ∷ dues (9000 ∷ []) ∷ in_step
    ∷ opens 2 ∷ gives (quoting (order 0 0 (3001 ∷ 6000 ∷ []))) 11 (record { ticket = 0; tick = 0; margin = minus 1 })
    ∷ late (order 0 0 (3001 ∷ 6000 ∷ [])) 11 (minus 1) ∷ accepts (order 18000 0 (3001 ∷ 6000 ∷ [])) 1 9001 (pos 8999)
    ∷ bounds (9001 ∷ []) ∷ dues (18000 ∷ []) ∷ in_step
    ∷ []

-- The same two sides by the interference set, of two orders for one station: 6,000 + 3,001, where both are late and 11 decides, and the live order alone is late
-- once the arrival writes 18,000 out, 12; and 6,000 + 3,000, where both are on time, with no tick to spare.
unfoldable pub sides_with_live : List Row
sides_with_live =
    opens 1 ∷ accepts (order 0 0 (6000 ∷ [])) 1 6000 (pos 3000) ∷ late (order 0 0 (3001 ∷ [])) 11 (minus 1) ∷ late (order 18000 0 (3001 ∷ [])) 12 (minus 1)
    ∷ accepts (order 0 0 (3000 ∷ [])) 2 9000 (pos 0) ∷ late (order 18000 0 (1 ∷ [])) 12 (minus 1)
    ∷ bounds (9000 ∷ 9000 ∷ []) ∷ dues (9000 ∷ 9000 ∷ []) ∷ in_step
    ∷ []

-- The same by format. At 1 mm per tick A1, 841 mm, has the costs 2,159 + 841 and 5,159 + 841, and with a fixed tick more at station 1 3,001 and 6,000.
-- Document 02, (iii): "Eight costs of 6,000 are still declined": B1, 1,000 mm, with 5,000 fixed ticks.
unfoldable pub sides_by_format : List Row
unfolding by_format sheet_of
sides_by_format =
    let within = sheet_of (2159 ∷ 5159 ∷ []) (1 ∷ 1 ∷ []) in
    let beyond = sheet_of (2160 ∷ 5159 ∷ []) (1 ∷ 1 ∷ []) in
    opens 2 ∷ tells (by_format 1 0 0 within) 9000 (pos 0) ∷ takes (by_format 1 0 0 within) 1 9000 (pos 0) ∷ bounds (9000 ∷ []) ∷ dues (9000 ∷ []) ∷ in_step
    ∷ opens 2 ∷ gives (quoting_format (by_format 1 0 0 beyond)) 11 (record { ticket = 0; tick = 0; margin = minus 1 }) ∷ too_late (by_format 1 0 0 beyond) 11 (minus 1)
    ∷ takes (by_format 1 18000 0 beyond) 1 9001 (pos 8999) ∷ bounds (9001 ∷ []) ∷ dues (18000 ∷ []) ∷ in_step
    ∷ opens 8 ∷ too_late (by_format 6 0 0 (sheet_of (replicate 8 5000) (replicate 8 1))) 11 (minus 39000)
    ∷ []

unfoldable pub default_cases : List (List Row)
unfolding order accepts late quotes takes too_late tells sides_of_default sides_with_live sides_by_format
default_cases = sides_of_default ∷ sides_with_live ∷ sides_by_format ∷ []
