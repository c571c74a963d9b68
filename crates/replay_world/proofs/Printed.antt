-- The answer to a line, once its text is printed.
use Rattle.std.proofs.Common.{◌≡◌, ℕ, List, true, false, Option, IfOk, Result, Ok, Err, refl, sym, subst, ◌∙◌, inr}
use Rattle.n32_outside.specs.Causes.{Rose}
use Rattle.n32_values.specs.declared.memory.NoMemory.{NoMemory}
use Rattle.spec_exchange.specs.Outside.{Choice}
use Rattle.spec_script.specs.Refusals as script
use Rattle.spec_script.specs.Steps.{State, Answer, Step, Fine, OnWire, Sends, Forwards, Delivers, Reports, Refuses, after, line_step, Opens, OpensAs, EndsTls}
use Rattle.spec_script.specs.Answers.{answer_text}
use Rattle.spec_script.specs.Output.{has_refusal, is_keeper_refusal}
use Rattle.script_lines.specs.View.{refusal_view}
use Rattle.script_lines.specs.declared.refusal.Refusal.{Refusal}
use Rattle.script_lines.specs.declared.refusal.Refusal.TheVariants as refusals
use Rattle.spec_exchange.specs.Screens.{Passes}
use Rattle.spec_script.specs.Choices.{Choices}
use Rattle.replay_world.specs.Outsiders.{Acting, by, line_steps}
use Rattle.replay_world.specs.Worlds.{state_of}
use Rattle.replay_world.specs.Stepping.{StepBy, Makes, GivesUp, Tells, Comes, TellsText, LineComes, is_refusal}
use Rattle.replay_world.specs.declared.world.World.{World}
use Rattle.script_lines.specs.declared.unanswered.Unanswered.TheVariants as unanswered

-- an answer that is no refusal is none of the keeper's
no_refusal : (a : Answer) → is_refusal a ≡ false → has_refusal is_keeper_refusal a ≡ false
no_refusal (Fine name) h = refl
no_refusal (OnWire n) h = refl
no_refusal (Sends x n) h = refl
no_refusal (Forwards t n) h = refl
no_refusal (Reports r) h = refl
no_refusal (Delivers d) h = refl
no_refusal (Opens t n id) h = refl
no_refusal (OpensAs id) h = refl
no_refusal EndsTls h = refl
no_refusal (Refuses e) h = cc

-- one refusal tells of the keeper
keeper_alone : (r : Refusal) → is_keeper_refusal (refusal_view r) ≡ true → r ≡ refusals.Keeper
keeper_alone refusals.Syntax h = cc
keeper_alone refusals.Number h = cc
keeper_alone (refusals.Event name) h = cc
keeper_alone refusals.NodeUnknown h = cc
keeper_alone refusals.NodeExists h = cc
keeper_alone refusals.WireUnknown h = cc
keeper_alone (refusals.Limit which) h = cc
keeper_alone refusals.KeysTwice h = cc
keeper_alone refusals.ContextNotFound h = cc
keeper_alone (refusals.Message member) h = cc
keeper_alone refusals.Depth h = cc
keeper_alone (refusals.PolicyForm mapping) h = cc
keeper_alone refusals.ContextUsed h = cc
keeper_alone (refusals.Form part) h = cc
keeper_alone refusals.Report h = cc
keeper_alone refusals.Signer h = cc
keeper_alone (refusals.Journal number) h = cc
keeper_alone refusals.Keeper h = refl
keeper_alone (refusals.Sending refusal) h = cc
keeper_alone (refusals.Receiving refusal report) h = cc
keeper_alone (refusals.Handshake refusal) h = cc

-- a step with the same told otherwise
told_so : (steps : State → Choice → Step) (held now : Option (List (List ℕ))) (old new : World) (P Q : Answer → Type 0) → ((a : Answer) → P a → Q a)
    → StepBy steps held old (Makes P held now old.wire new) → StepBy steps held old (Makes Q held now old.wire new)
told_so steps held now old new P Q f h = record {
  choice = h.choice;
  records = h.records;
  chosen = h.chosen;
  leaves = record { told = f (steps (state_of old h.records) h.choice).answer h.leaves.told; sites = h.leaves.sites; sent = h.leaves.sent; starts = h.leaves.starts; change = h.leaves.change };
}

pub printed_ok : (passes : Passes) (x : Acting) (held now : Option (List (List ℕ))) (before after_ : ℕ) (old new : World) (number : ℕ) (line text : List ℕ)
    → Comes (line_steps passes x line) held now old new number (Ok text) → LineComes passes x held now before after_ old new number line (Ok text)
printed_ok passes x held now before after_ old new number line text h =
    told_so (line_steps passes x line) held now old new (Tells number (Ok text)) (TellsText before after_ number text) (λ a p. record { text_is = p.0; failed = λ e. let other = no_refusal a p.1 in cc }) h

refusal_told : (before after_ : ℕ) (number : ℕ) (text : List ℕ) (refusal : Refusal) (a : Answer) → text ≡ answer_text number (Refuses (refusal_view refusal)) → (refusal ≡ refusals.Keeper → Rose before after_) → a ≡ Refuses (refusal_view refusal) → TellsText before after_ number text a
refusal_told before after_ number text refusal a is failed same =
    subst (λ (z : Answer). TellsText before after_ number text z) (sym same) (record { text_is = is; failed = λ e. failed (keeper_alone refusal e) })

-- a refusal leaves the nodes and the wire
pub record KeepsState (passes : Passes) (line : List ℕ) : Type 0 where
  pub sites : (s : State) (f : Choices) (e : script.Refusal) → (line_step passes s f line).answer ≡ Refuses e → (after s (line_step passes s f line)).sites ≡ s.sites
  pub wire : (s : State) (f : Choices) (e : script.Refusal) → (line_step passes s f line).answer ≡ Refuses e → (after s (line_step passes s f line)).wire ≡ s.wire

unprinted : (passes : Passes) (x : Acting) (held now : Option (List (List ℕ))) (old new : World) (number : ℕ) (line : List ℕ) (refusal : Refusal) → KeepsState passes line
    → StepBy (line_steps passes x line) held old (Makes (Tells number (Err (unanswered.Refused refusal))) held now old.wire new) → GivesUp (line_steps passes x line) held now old new
unprinted passes x held now old new number line refusal keeps h = record {
  sites = h.leaves.sites ∙ keeps.sites (state_of old h.records) (by x h.choice) (refusal_view refusal) h.leaves.told;
  wire = h.leaves.sent ∙ keeps.wire (state_of old h.records) (by x h.choice) (refusal_view refusal) h.leaves.told;
  kept = inr (record { choice = h.choice; records = h.records; chosen = h.chosen; leaves = h.leaves.change.told });
}

pub printed_refusal : (passes : Passes) (x : Acting) (held now : Option (List (List ℕ))) (before after_ : ℕ) (old new : World) (number : ℕ) (line : List ℕ) (refusal : Refusal) (result : Result (List ℕ) NoMemory) → KeepsState passes line
    → IfOk result (λ text. text ≡ answer_text number (Refuses (refusal_view refusal))) → (refusal ≡ refusals.Keeper → Rose before after_)
    → Comes (line_steps passes x line) held now old new number (Err (unanswered.Refused refusal)) → LineComes passes x held now before after_ old new number line result
printed_refusal passes x held now before after_ old new number line refusal (Ok text) keeps is failed h =
    told_so (line_steps passes x line) held now old new (Tells number (Err (unanswered.Refused refusal))) (TellsText before after_ number text) (λ a p. refusal_told before after_ number text refusal a is failed p) h
printed_refusal passes x held now before after_ old new number line refusal (Err e) keeps is failed h = unprinted passes x held now old new number line refusal keeps h
