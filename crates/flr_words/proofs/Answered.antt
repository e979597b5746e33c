-- What the words ask for, by what clap made of them.
use Rattle.std.proofs.Common.{◌≡◌, ◌∙◌, false, refl, sym, ap, subst, List, [], ◌∷◌, Option, Some, inl, inr, codes, arith}
use Rattle.std.specs.Fmt.{decimal}
use Rattle.std.specs.List.{list_any}
use Rattle.clap.specs.Faults.{fault_of}
use Rattle.clap.specs.Simple.{subcommand_of}
use Rattle.clap.specs.Walk.{Row, Text, first_of}
use Rattle.flr_words.specs.CommandLine.{command_line, is_flag}
use Rattle.flr_words.specs.Words.{AskFor, IsOther}
use Rattle.flr_words.specs.declared.words.Words.{Words}
use Rattle.flr_words.specs.declared.words.Words.TheVariants as asked
use Rattle.flr_words.proofs.Forms.{migrate_met, migrate_passes, one_passes, passing, random_met, replay_met, replay_passes, rows_of_random, rows_of_soak, run_met, run_passes, soak_met, three_pass}
use Rattle.flr_words.proofs.Numbers.{decimal_is_plain}

-- words that clap isn't asked about, or refuses, are of no form
pub refused_is_other : (words : List Text) → (list_any is_flag words ≡ false → fault_of command_line words ≡ [] → ⊥) → IsOther words
refused_is_other words refused = (
  (λ run. refused (ap (list_any is_flag) run) (ap (fault_of command_line) run ∙ run_passes)),
  (λ replay. refused (ap (list_any is_flag) replay) (ap (fault_of command_line) replay ∙ replay_passes)),
  (λ migrate. refused (ap (list_any is_flag) migrate) (ap (fault_of command_line) migrate ∙ migrate_passes)),
  (λ seed clients calls soak.
      let a = decimal_is_plain seed (omega (arith, soak.seeded)) in
      let b = decimal_is_plain clients (omega (arith, soak.few_clients)) in
      let c = decimal_is_plain calls (omega (arith, soak.few_calls)) in
      let plain : list_any is_flag (codes "soak" ∷ decimal seed ∷ decimal clients ∷ decimal calls ∷ []) ≡ false = rw (a, b, c) refl in
      refused (ap (list_any is_flag) soak.spelled ∙ plain) (ap (fault_of command_line) soak.spelled ∙ three_pass (decimal seed) (decimal clients) (decimal calls) a b c)),
  (λ seed random.
      let a = decimal_is_plain seed (omega (arith, random.seeded)) in
      let plain : list_any is_flag (codes "random" ∷ decimal seed ∷ []) ≡ false = rw a refl in
      refused (ap (list_any is_flag) random.spelled ∙ plain) (ap (fault_of command_line) random.spelled ∙ one_passes (decimal seed) a)),
)

-- words that pass ask for what the form asks for that clap found
pub passed_asks : (words : List Text) (found : Option (Text × List Row)) (result : Words) → list_any is_flag words ≡ false → fault_of command_line words ≡ [] → found ≡ subcommand_of command_line words
    → ((rows : List Row) → found ≡ Some (codes "run", rows) → result ≡ asked.Run)
    → ((rows : List Row) → found ≡ Some (codes "replay", rows) → result ≡ asked.Replay)
    → ((rows : List Row) → found ≡ Some (codes "migrate", rows) → result ≡ asked.Migrate)
    → ((rows : List Row) (seed clients calls : Text) → found ≡ Some (codes "soak", rows) → first_of (codes "seed") rows ≡ Some seed → first_of (codes "clients") rows ≡ Some clients
    → first_of (codes "calls") rows ≡ Some calls → AskFor (codes "soak" ∷ seed ∷ clients ∷ calls ∷ []) result)
    → ((rows : List Row) (seed : Text) → found ≡ Some (codes "random", rows) → first_of (codes "seed") rows ≡ Some seed → AskFor (codes "random" ∷ seed ∷ []) result)
    → AskFor words result
passed_asks words found result plain passes met run replay migrate soak random = elim (passing words plain passes) [
  | inl e ↦ subst (AskFor words) (sym (run [] (met ∙ (ap (subcommand_of command_line) e ∙ run_met)))) e
  | inr (inl e) ↦ subst (AskFor words) (sym (replay [] (met ∙ (ap (subcommand_of command_line) e ∙ replay_met)))) e
  | inr (inr (inl e)) ↦ subst (AskFor words) (sym (migrate [] (met ∙ (ap (subcommand_of command_line) e ∙ migrate_met)))) e
  | inr (inr (inr (inl n))) ↦
      let t = n.2 in
      let e : words ≡ codes "soak" ∷ t.0 ∷ t.1 ∷ t.2 ∷ [] = n.1 ∙ ap (λ (ws : List Text). codes "soak" ∷ ws) t.3 in
      subst (λ (ws : List Text). AskFor ws result) (sym e) (soak (rows_of_soak t.0 t.1 t.2) t.0 t.1 t.2 (met ∙ (ap (subcommand_of command_line) e ∙ soak_met t.0 t.1 t.2 t.4 t.5 t.6)) refl refl refl)
  | inr (inr (inr (inr n))) ↦
      let t = n.2 in
      let e : words ≡ codes "random" ∷ t.0 ∷ [] = n.1 ∙ ap (λ (ws : List Text). codes "random" ∷ ws) t.1 in
      subst (λ (ws : List Text). AskFor ws result) (sym e) (random (rows_of_random t.0) t.0 (met ∙ (ap (subcommand_of command_line) e ∙ random_met t.0 t.2)) refl)
]
