-- What hears the voicemail systems that an operator names, and tells the service what they say.
use Rattle.std.specs.Prelude.{◌≡◌, [], ◌∷◌, if◌then◌else◌, bytes_eq}
use Rattle.sip_text.specs.declared.address.Addr.{Addr}
use Rattle.transport.specs.Sockets.{loopback}
use Rattle.transport.specs.declared.udp.UdpWire.{UdpWire}
use Rattle.control_lines.specs.declared.udp.UdpSpeaker.{UdpSpeaker}
use Rattle.voicemail.specs.declared.desk.VoicemailDesk.{VoicemailDesk}
use Rattle.plans.specs.declared.plan.Plan.{Plan}
use Rattle.commands.specs.Serving.{IsAt}

-- where this machine reaches what is bound here: 0.0.0.0 is each of its addresses
abbrev pub reached_at : Addr → Addr
reached_at bound = if bytes_eq bound.ip (0 ∷ 0 ∷ 0 ∷ 0 ∷ []) then loopback bound.port else bound

-- it hears NOTIFYs from the networks of the plan alone, where the plan says, and answers from there. It tells what they say at this address, and
-- keeps no answer yet
pub record IsFeedDesk (plan : Plan) (control : Addr) (desk : VoicemailDesk UdpWire UdpSpeaker) : Type 0 where
  pub networks : desk.networks.items ≡ plan.feeds.items
  pub coming : IsAt plan.choices.feed desk.coming.local
  pub going : desk.going.local ≡ desk.coming.local
  pub service : desk.speaker.service ≡ reached_at control
  pub none_kept : desk.kept.items ≡ []
