use Rattle.spec_documents.proofs.Decoding.{base64url-unique, bytes_of-base64url, bytes_of-is, bytes_of-none}
use Rattle.spec_documents.proofs.readings.texts_have_their_bytes.Goals as goal

pub returns-clause-there : goal.returns-clause-there
returns-clause-there c bytes h = bytes_of-base64url bytes h

pub returns-clause-are : goal.returns-clause-are
returns-clause-are c text bytes e = (bytes_of-is text bytes e).are

pub returns-clause-text : goal.returns-clause-text
returns-clause-text c text bytes e = (bytes_of-is text bytes e).is

pub returns-clause-none : goal.returns-clause-none
returns-clause-none c text none = bytes_of-none text none

pub returns-clause-apart : goal.returns-clause-apart
returns-clause-apart c a b xs ys e = base64url-unique a b xs ys e
