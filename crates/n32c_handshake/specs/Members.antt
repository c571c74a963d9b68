-- The names of the members of the handshake's documents (TS 29.573 clause 6.1.5 in outline).
use Rattle.std.specs.Prelude.{ℕ, List, codes}
use Rattle.n32c_handshake.specs.declared.member.HandMember.{HandMember}
use Rattle.n32c_handshake.specs.declared.member.HandMember.TheVariants.{Api, Call, Request, Response, Sender, Capabilities, Capability, Providers, Suites, Suite, Context, Plmn, Policy, SelectedPolicy}

abbrev pub member_name : HandMember → List ℕ
member_name Api = codes "api"
member_name Call = codes "call"
member_name Request = codes "request"
member_name Response = codes "response"
member_name Sender = codes "sender"
member_name Capabilities = codes "supportedSecCapabilityList"
member_name Capability = codes "selectedSecCapability"
member_name Providers = codes "ipxProviderSecInfoList"
member_name Suites = codes "jweCipherSuiteList"
member_name Suite = codes "selectedJweCipherSuite"
member_name Context = codes "n32fContextId"
member_name Plmn = codes "plmn"
member_name Policy = codes "protectionPolicyInfo"
member_name SelectedPolicy = codes "selProtectionPolicyInfo"
