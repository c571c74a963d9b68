-- Base64url by the words of the crate `base64`.
use Rattle.std.proofs.Common.{◌≡◌, ℕ, List, append-nil}
use Rattle.base64.specs.Rfc4648.{encode_symbols}
use Rattle.base64.specs.GeneralPurpose.{encode_of, engine_symbols, engine_config}
use Rattle.base64.specs.declared.engine.general_purpose.TheConstants.{NO_PAD}
use Rattle.base64.specs.declared.engine.general_purpose.GeneralPurpose.{GeneralPurpose}
use Rattle.spec_documents.specs.Base64url.{base64url, url_symbols}

pub encode_of-base64url : (e : GeneralPurpose) (bytes : List ℕ) → engine_symbols e ≡ url_symbols → engine_config e ≡ NO_PAD → encode_of e bytes ≡ base64url bytes
encode_of-base64url e bytes symbols padding = rw (symbols, padding) (append-nil (encode_symbols url_symbols bytes))
