-- The places and types of the definitions that the program's are.
use Rattle.spec_messages.specs.Policy as spec
use Rattle.policy_documents.specs.declared.words.IeLoc.{IeLoc}
use Rattle.policy_documents.specs.declared.words.IeLoc.TheVariants as places
use Rattle.policy_documents.specs.declared.words.IeType.{IeType}
use Rattle.policy_documents.specs.declared.words.IeType.TheVariants as types

abbrev pub location_view : IeLoc → spec.Location
location_view places.UriParam = spec.uri_param
location_view places.Header = spec.header
location_view places.Body = spec.body
location_view places.MultipartBinary = spec.multipart_binary

abbrev pub sort_view : IeType → spec.Sort
sort_view types.Ueid = spec.ueid
sort_view types.Location = spec.location
sort_view types.KeyMaterial = spec.key_material
sort_view types.AuthenticationMaterial = spec.authentication_material
sort_view types.AuthorizationToken = spec.authorization_token
sort_view types.Other = spec.other
sort_view types.Nonsensitive = spec.nonsensitive
