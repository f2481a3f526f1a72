-- The promise, for every settings and every showing. Assumes nothing.
use Rattle.hold.specs.Candidates.{Showing}
use Rattle.reception.specs.Decoding.{Settings}
use Rattle.reception.specs.Promise.{Promise, ReceiverPromise}
use Rattle.reception.proofs.Called.{calls_run_as_their_events}
use Rattle.reception.proofs.Counts.{corrections_are_among_the_codeblocks, a_report_tells_the_codeblocks_held, a_candidate_is_open_just_in_decode}
use Rattle.reception.proofs.Refused.{a_refused_call_changes_nothing}
use Rattle.reception.proofs.Finished.{what_is_finished_stays}
use Rattle.reception.proofs.Idle.{idle_brings_it_back}
use Rattle.reception.proofs.Sent.{carrier_up_makes_it_ready, what_is_sent_then_is_received, a_gap_behind_leaves_it_clear, what_is_received_is_reported}
use Rattle.reception.proofs.Undamaged.{as_sent_is_within_the_allowance, undamaged_comes_back}
use Rattle.reception.proofs.Joined.{runs_are_joined}

pub promise : (settings : Settings) (showing : Showing) → Promise settings showing
promise settings showing =
    record {
      refused = a_refused_call_changes_nothing settings showing;
      stays = what_is_finished_stays settings showing;
      back = idle_brings_it_back settings showing;
      received = what_is_sent_then_is_received settings showing;
      behind = a_gap_behind_leaves_it_clear settings showing;
      reported = what_is_received_is_reported settings showing;
      within = as_sent_is_within_the_allowance settings;
      undamaged = undamaged_comes_back settings showing;
    }

pub receiver_promise : (settings : Settings) (showing : Showing) → ReceiverPromise settings showing
receiver_promise settings showing =
    record {
      promise = promise settings showing;
      calls = calls_run_as_their_events settings showing;
      joined = runs_are_joined settings showing;
      counts = corrections_are_among_the_codeblocks settings showing;
      told = a_report_tells_the_codeblocks_held settings showing;
      opens = a_candidate_is_open_just_in_decode settings showing;
      ready = carrier_up_makes_it_ready settings showing;
    }
