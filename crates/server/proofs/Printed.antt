-- What is printed for all that was heard and made is the page.
use Rattle.std.proofs.Common.{◌≡◌, ℕ, List, ◌++◌, length, ap, ◌∙◌}
use Rattle.std.specs.List.{flat_map}
use Rattle.sip_read.specs.Message.{IsExact}
use Rattle.notifier_model.specs.declared.event.Event.{Event}
use Rattle.notifier_model.specs.Start.{Start}
use Rattle.server.specs.declared.hearing.HeardScript.{HeardScript}
use Rattle.server.specs.declared.work.Work.{Work}
use Rattle.server.specs.Page.{Readings, AreReadings, events_of, events_at, worker_page, IsPage}
use Rattle.server.specs.Hearing.{IsHeard}
use Rattle.server.specs.Working.{AreWorks, printed}
use Rattle.server.proofs.Worked.{works_page}

-- what the law of reading gives
abbrev readings_of : IsExact → Readings
readings_of exact octets = (exact octets).0

are_readings_of : (exact : IsExact) → AreReadings (readings_of exact)
are_readings_of exact octets = (exact octets).1

pub is_page : (starts : List Start) (bytes : List ℕ) (hearing : HeardScript) (works : List Work) (page : List ℕ)
    → IsExact → IsHeard bytes hearing
    → AreWorks starts (events_at (length starts) hearing.events.items) works
    → page ≡ hearing.unread ++ flat_map printed works
    → IsPage starts bytes page
is_page starts bytes hearing works page exact is are lines =
    let readings = readings_of exact in
    let are_readings = are_readings_of exact in
    record {
      blocks = is.blocks;
      is_script = is.is_script;
      readings = readings;
      are_readings = are_readings;
      whole =
          lines
          ∙ ap (λ (t : List ℕ). hearing.unread ++ t) (works_page (length starts) starts hearing.events.items works are)
          ∙ ap (λ (es : List Event). hearing.unread ++ flat_map (worker_page (length starts) es) starts) (is.heard.events readings are_readings)
          ∙ ap (λ (t : List ℕ). t ++ flat_map (worker_page (length starts) (events_of readings is.blocks)) starts) (is.heard.unread readings are_readings);
    }
