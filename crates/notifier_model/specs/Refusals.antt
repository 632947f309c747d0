-- The status of each refusal (RFC 3261 section 21, RFC 6665 section 8.3).
use Rattle.sip_write.specs.declared.status.Status.{Status}
use Rattle.sip_write.specs.declared.status.Status.TheVariants as status
use Rattle.notifier_model.specs.declared.refusal.Refusal.{Refusal}
use Rattle.notifier_model.specs.declared.refusal.Refusal.TheVariants as refusal

abbrev pub status_of : Refusal → Status
status_of refusal.OtherMethod = status.MethodNotAllowed
status_of refusal.OtherScheme = status.UnsupportedUriScheme
status_of refusal.UnmetRequire = status.BadExtension
status_of refusal.Malformed = status.BadRequest
status_of refusal.NoDialog = status.CallDoesNotExist
status_of refusal.OldCseq = status.ServerInternalError
status_of refusal.ReferInDialog = status.Forbidden
status_of refusal.OtherEvent = status.CallDoesNotExist
status_of refusal.NoPackage = status.BadEvent
status_of refusal.OnlyByRefer = status.Forbidden
status_of refusal.NotAcceptable = status.NotAcceptable
status_of refusal.NoResource = status.NotFound
status_of refusal.TooBrief = status.IntervalTooBrief
status_of refusal.Full = status.ServiceUnavailable
