-- What contracts see of the code's values.
use Rattle.std.specs.Prelude.{ℕ, List, option_map}
use Rattle.std.specs.Borrow.{Bor}
use Rattle.sip_read.specs.declared.datagram.First.{First as FirstText}
use Rattle.sip_read.specs.declared.datagram.First.TheVariants as firsts
use Rattle.sip_read.specs.declared.gathered.Fields.{Fields as FieldsHeld}
use Rattle.sip_read.specs.declared.gathered.Gathered.{Gathered as GatheredHeld}
use Rattle.sip_read.specs.declared.value.Hop.{Hop as HopText}
use Rattle.sip_read.specs.declared.value.Marks.{Marks as MarksText}
use Rattle.sip_read.specs.FirstLine.{First, request, status}
use Rattle.sip_read.specs.GatheredComputed.{Fields, Gathered}
use Rattle.sip_read.specs.Vias.{Hop}
use Rattle.sip_read.specs.ViasComputed.{Marks}
use Rattle.sip_text.specs.Views.{view}

abbrev pub marks : MarksText → Marks
marks m = record { branch = option_map view m.branch; bare_rport = m.bare_rport }

abbrev pub hop : HopText → Hop
hop h = record { text = h.text.now; sent_by = h.sent_by.now; branch = option_map (λ t. t.now) h.branch; bare_rport = h.bare_rport }

abbrev pub first : FirstText → First
first (firsts.Request method uri) = request method.now uri.now
first (firsts.Status code reason) = status code reason.now

abbrev pub first_pair : (FirstText × Bor (List ℕ)) → First × List ℕ
first_pair x = (first x.0, x.1.now)

abbrev pub fields_seen : FieldsHeld → Fields
fields_seen f = record { event = f.event; expires = f.expires; accept = option_map (λ v. v.items) f.accept; contact = f.contact; refer_to = f.refer_to; refer_sub = f.refer_sub; require = f.require.items; record_routes = f.record_routes.items }

abbrev pub gathered_seen : GatheredHeld → Gathered
gathered_seen g = record { vias = g.head.vias.items; top = g.head.top; from = g.head.from; to = g.head.to; call_id = g.head.call_id; cseq = g.head.cseq; content_length = g.content_length; fields = fields_seen g.fields }
