-- Starts with the candidates are the starts of the definition, station by station.
use Rattle.std.proofs.Common.{◌≡◌, refl, sym, ap, ◌∙◌, List, cond, ℕ, suc, length, get_or, arith}
use Rattle.std.proofs.Math.Option.{none, some}
use Rattle.std.proofs.Math.Option as Math
use Rattle.model.specs.declared.Service.{Service}
use Rattle.model.specs.Limits.{max_stations}
use Rattle.model.specs.Lists.{at, is_zero, numbered, upward}
use Rattle.model.specs.State.{idle}
use Rattle.model.specs.Tick.{View, first, entry_of, start_at, start_each}
use Rattle.lists.proofs.Fills.{length-upward, get_d_upward}
use Rattle.lists.proofs.Tests.{either, is_numbered_lem, get_d_numbered, length-numbered}
use Rattle.tick.specs.declared.selection.Candidate.{Candidate}
use Rattle.tick.specs.Selection.{nobody, candidate_of, candidate_for, candidates}
use Rattle.tick.specs.Starting.{start_with, start_all}
use Rattle.tick.proofs.selection.CandidateLaws.{candidates_at}

pub each_start : (found : List Candidate) (services : List Service) → length services ≡ max_stations → upward 0 max_stations (λ i. start_with (get_or found i nobody) (get_or services i idle)) ≡ start_all found services
unfolding start_all
each_start found services long =
    let f : ℕ → Service = λ i. start_with (get_or found i nobody) (get_or services i idle) in
    is_numbered_lem (λ k e. start_with (at nobody found k) e) idle idle services (upward 0 max_stations f) (length-upward 0 max_stations f ∙ sym long) (λ i h. get_d_upward max_stations f i idle (omega arith))

entry : (k : ℕ) (x : Math.Option View) → record { ticket = (candidate_of k x).ticket; left = (candidate_of k x).left } ≡ entry_of k x
unfolding candidate_of entry_of
entry k none = refl
entry k (some v) = refl

start_at_lem : (views : List View) (k : ℕ) (e : Service) → start_with (candidate_for views k e) e ≡ start_at views k e
unfolding start_with candidate_for start_at
start_at_lem views k e =
    either (λ b. cond b (record { ticket = (cond b (candidate_of k (first k views)) nobody).ticket; left = (cond b (candidate_of k (first k views)) nobody).left }) e ≡ cond b (entry_of k (first k views)) e) (is_zero e.ticket)
    (λ _. entry k (first k views))
    (λ _. refl)

starts_all : (views : List View) (services : List Service) → start_all (candidates views services) services ≡ start_each views services
unfolding start_all start_each
starts_all views services =
    is_numbered_lem (start_at views) idle idle services (numbered _ 1 services) (length-numbered _ 1 services)
    (λ i h. get_d_numbered _ services i idle idle h ∙ ap (λ (c : Candidate). start_with c (get_or services i idle)) (candidates_at views services i h) ∙ start_at_lem views (suc i) (get_or services i idle))

-- What the code makes of each station's candidate and entry is what the definition starts there.
pub starts_lem : (views : List View) (services : List Service) (found : List Candidate) → length services ≡ max_stations → found ≡ candidates views services → upward 0 max_stations (λ i. start_with (get_or found i nobody) (get_or services i idle)) ≡ start_each views services
starts_lem views services found long e = each_start found services long ∙ rw e (starts_all views services)
