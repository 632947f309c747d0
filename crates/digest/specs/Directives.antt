-- The parameters of Authorization that are known (RFC 7616 section 3.4).
use Rattle.std.specs.Prelude.{ℕ, List, codes}
use Rattle.digest.specs.declared.directive.Directive.{Directive}
use Rattle.digest.specs.declared.directive.Directive.TheVariants as directive

abbrev pub directive_text : Directive → List ℕ
directive_text directive.Username = codes "username"
directive_text directive.Realm = codes "realm"
directive_text directive.Nonce = codes "nonce"
directive_text directive.Uri = codes "uri"
directive_text directive.Response = codes "response"
directive_text directive.Algorithm = codes "algorithm"
directive_text directive.Opaque = codes "opaque"
directive_text directive.Qop = codes "qop"
directive_text directive.Nc = codes "nc"
directive_text directive.Cnonce = codes "cnonce"

abbrev pub directive_number : Directive → ℕ
directive_number directive.Username = 1
directive_number directive.Realm = 2
directive_number directive.Nonce = 3
directive_number directive.Uri = 4
directive_number directive.Response = 5
directive_number directive.Algorithm = 6
directive_number directive.Opaque = 7
directive_number directive.Qop = 8
directive_number directive.Nc = 9
directive_number directive.Cnonce = 10
