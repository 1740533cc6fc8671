-- The facts of a sound image from its clauses, and the clauses from the facts.
use mathlib.Core.Path.{◌≡◌, refl}
use mathlib.Core.Bool.{true}
use mathlib.Core.List.{List}
use Prim.Native.Nat.{ℕ, ◌+◌, ◌≤◌}
use native.Mathlib.Omega.{arith}
use lib.ListN.{length, drop}
use Rattle.model.specs.declared.Order.{Order}
use Rattle.model.specs.Limits.{max_stations, max_live, last_tick}
use Rattle.model.specs.Lists.{largest, all}
use Rattle.model.specs.State.{State}
use Rattle.model.specs.DelayBound.{delay_bound, bound_tick, on_time}
use Rattle.model.specs.Image.{live_count, decode}
use Rattle.model.specs.Soundness.{station_count_in_range, live_count_in_range, clock_in_range, zero_bytes_zero, unused_records_zero, tickets_in_order, accepted_by_now, due_in_range, station_in_use, costs_in_range, maxima_in_range, sum_in_range, fields_beyond_zero, record_zero_beyond, is_idle, services_in_order, clauses, sound}
use Rattle.schedule.specs.Valid.{◌∈◌}
use Rattle.schedule.proofs.Laws.{and_both, all_member}
use Rattle.image_laws.specs.InRange.{OrderInRange, InRange}
use Rattle.image_laws.specs.SoundFacts.{SoundOrder, SoundState}
use Rattle.image_laws.proofs.Tests.{Says, leb_says, within_says, entries_say, both_true, all_true}
use Rattle.image_laws.proofs.Clauses.{tickets_say, due_says, costs_say, maxima_say, fields_say, idle_beyond_says, services_say}

-- The clauses by name: of an image, and of the state that it says.
pub record Passed (image : List ℕ) (s : State) : Type 0 where
  pub n : station_count_in_range s ≡ true
  pub live : live_count_in_range image ≡ true
  pub clock : clock_in_range s ≡ true
  pub zeros : zero_bytes_zero image ≡ true
  pub unused : unused_records_zero image ≡ true
  pub tickets : tickets_in_order s ≡ true
  pub accepted : all (accepted_by_now s) s.orders ≡ true
  pub due : all due_in_range s.orders ≡ true
  pub station : all (station_in_use s.n) s.orders ≡ true
  pub costs : all (λ (o : Order). costs_in_range s.n o.costs) s.orders ≡ true
  pub maxima : all (maxima_in_range s.n) s.orders ≡ true
  pub sum : all sum_in_range s.orders ≡ true
  pub on_time : all (on_time s.n) s.orders ≡ true
  pub beyond : fields_beyond_zero s ≡ true
  pub services : services_in_order s ≡ true

pub sound_says : (image : List ℕ) → Says (sound image) (Passed image (decode image))
unfolding sound clauses all
sound_says image = record { tells = there; passes = back }
  where
    there : sound image ≡ true → Passed image (decode image)
    there e =
        let clause = (entries_say (λ b. b) (λ b. b ≡ true) (λ b. record { tells = λ e. e; passes = λ e. e }) true refl (clauses image)).tells e in
        record {
          n = clause 0;
          live = clause 1;
          clock = clause 2;
          zeros = clause 3;
          unused = clause 4;
          tickets = clause 5;
          accepted = clause 6;
          due = clause 7;
          station = clause 8;
          costs = clause 9;
          maxima = clause 10;
          sum = clause 11;
          on_time = clause 12;
          beyond = clause 13;
          services = clause 14;
        }

    back : Passed image (decode image) → sound image ≡ true
    back p =
        rw (
          p.n,
          p.live,
          p.clock,
          p.zeros,
          p.unused,
          p.tickets,
          p.accepted,
          p.due,
          p.station,
          p.costs,
          p.maxima,
          p.sum,
          p.on_time,
          p.beyond,
          p.services,
        )

-- The clauses of one live order by name.
record OrderPassed (s : State) (o : Order) : Type 0 where
  accepted : accepted_by_now s o ≡ true
  due : due_in_range o ≡ true
  station : station_in_use s.n o ≡ true
  costs : costs_in_range s.n o.costs ≡ true
  maxima : maxima_in_range s.n o ≡ true
  sum : sum_in_range o ≡ true
  on_time : on_time s.n o ≡ true
  beyond : record_zero_beyond s.n o ≡ true

-- Its rows are eight long, so that they have an entry for each of n stations.
module _ (s : State) (few : s.n ≤ max_stations) (o : Order) (r : OrderInRange o) where
  time_says : Says (on_time s.n o) (o.accepted + delay_bound s.n o.sum o.maxima ≤ o.due)
  unfolding on_time bound_tick
  time_says = leb_says (o.accepted + delay_bound s.n o.sum o.maxima) o.due

  order_facts : 1 ≤ o.ticket → OrderPassed s o → SoundOrder s.n s.clock o
  unfolding accepted_by_now station_in_use sum_in_range
  order_facts named p =
      let due = (due_says o).tells p.due in
      let station = (within_says 1 s.n o.station).tells p.station in
      let cost = (costs_say s.n o.costs (omega (arith, r.costs.eight))).tells p.costs in
      let maximum = (maxima_say s.n o (omega (arith, r.maxima.eight))).tells p.maxima in
      let beyond = (fields_say s.n o).tells p.beyond in
      record {
        named = named;
        accepted = (leb_says o.accepted s.clock).tells p.accepted;
        due_after = due.0.0;
        due_within = due.0.1;
        due_last = due.1;
        station_low = station.0;
        station_high = station.1;
        cost_low = λ k low high. (cost k low high).0;
        cost_high = λ k low high. (cost k low high).1;
        maximum_low = λ k low high. (maximum k low high).0;
        maximum_high = λ k low high. (maximum k low high).1;
        sum = (leb_says (largest o.costs) o.sum).tells p.sum;
        on_time = time_says.tells p.on_time;
        rank_beyond = beyond.0.0;
        cost_beyond = beyond.0.1;
        maximum_beyond = beyond.1;
      }

  order_passes : SoundOrder s.n s.clock o → OrderPassed s o
  unfolding accepted_by_now station_in_use sum_in_range
  order_passes g =
      record {
        accepted = (leb_says o.accepted s.clock).passes g.accepted;
        due = (due_says o).passes ((g.due_after, g.due_within), g.due_last);
        station = (within_says 1 s.n o.station).passes (g.station_low, g.station_high);
        costs = (costs_say s.n o.costs (omega (arith, r.costs.eight))).passes (λ k low high. (g.cost_low k low high, g.cost_high k low high));
        maxima = (maxima_say s.n o (omega (arith, r.maxima.eight))).passes (λ k low high. (g.maximum_low k low high, g.maximum_high k low high));
        sum = (leb_says (largest o.costs) o.sum).passes g.sum;
        on_time = time_says.passes g.on_time;
        beyond = (fields_say s.n o).passes ((g.rank_beyond, g.cost_beyond), g.maximum_beyond);
      }

-- The clauses of a state in range, and its facts.
module _ (image : List ℕ) (s : State) (f : InRange s) where
  pub facts : Passed image s → SoundState s
  unfolding station_count_in_range live_count_in_range clock_in_range fields_beyond_zero
  facts p =
      let n = (within_says 1 max_stations s.n).tells p.n in
      let tickets = (tickets_say s).tells p.tickets in
      let beyond = and_both (all (record_zero_beyond s.n) s.orders) (all is_idle (drop s.n s.services)) p.beyond in
      record {
        n_low = n.0;
        n_high = n.1;
        live = f.live;
        clock = (leb_says s.clock last_tick).tells p.clock;
        rising = tickets.0.1;
        below = tickets.1;
        orders = λ o m.
            order_facts s n.1 o (f.orders o m) (tickets.0.0 o m)
            (record {
              accepted = all_member (accepted_by_now s) s.orders p.accepted m;
              due = all_member due_in_range s.orders p.due m;
              station = all_member (station_in_use s.n) s.orders p.station m;
              costs = all_member (λ (o : Order). costs_in_range s.n o.costs) s.orders p.costs m;
              maxima = all_member (maxima_in_range s.n) s.orders p.maxima m;
              sum = all_member sum_in_range s.orders p.sum m;
              on_time = all_member (on_time s.n) s.orders p.on_time m;
              beyond = all_member (record_zero_beyond s.n) s.orders beyond.0 m;
            });
        idle_beyond = (idle_beyond_says s.n s.services).tells beyond.1;
        services = (services_say s (omega (arith, f.eight, n.1))).tells p.services;
      }

  pub passed : live_count image ≡ length s.orders → zero_bytes_zero image ≡ true → unused_records_zero image ≡ true → SoundState s → Passed image s
  unfolding station_count_in_range live_count_in_range clock_in_range fields_beyond_zero
  passed counted zeros unused g =
      let order : (o : Order) → o ∈ s.orders → OrderPassed s o = λ o m. order_passes s g.n_high o (f.orders o m) (g.orders o m) in
      record {
        n = (within_says 1 max_stations s.n).passes (g.n_low, g.n_high);
        live = (leb_says (live_count image) max_live).passes (rw counted f.live);
        clock = (leb_says s.clock last_tick).passes g.clock;
        zeros = zeros;
        unused = unused;
        tickets = (tickets_say s).passes ((λ o m. (g.orders o m).named, g.rising), g.below);
        accepted = all_true (accepted_by_now s) s.orders (λ o m. (order o m).accepted);
        due = all_true due_in_range s.orders (λ o m. (order o m).due);
        station = all_true (station_in_use s.n) s.orders (λ o m. (order o m).station);
        costs = all_true (λ (o : Order). costs_in_range s.n o.costs) s.orders (λ o m. (order o m).costs);
        maxima = all_true (maxima_in_range s.n) s.orders (λ o m. (order o m).maxima);
        sum = all_true sum_in_range s.orders (λ o m. (order o m).sum);
        on_time = all_true (on_time s.n) s.orders (λ o m. (order o m).on_time);
        beyond =
            both_true
            (all_true (record_zero_beyond s.n) s.orders (λ o m. (order o m).beyond))
            ((idle_beyond_says s.n s.services).passes g.idle_beyond);
        services = (services_say s (omega (arith, f.eight, g.n_high))).passes g.services;
      }
