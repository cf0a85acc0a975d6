-- `segment_commanded::commands::commanded` meets its contract: each arm knows its command. What it stores, with the position that `at` gives, is the
-- rule fact by fact; the other callees do what the rule says.
-- Assumes nothing.
use Rattle.segment.specs.Laws.{every}
use Rattle.segment.specs.Fact.{cell, address, data_mode, stepping, mode, dimming, display, led, key, switches, read_count, position}
use Rattle.segment_commanded.proofs.commands.commanded.Goals as goal

pub returns-in-Setting : goal.returns-in-Setting
returns-in-Setting c = rw c.in-Setting.is (let h = c.at.ensures in every _ (λ i k. h (cell i k)) (h address) (h data_mode) (h stepping) (h mode) (h dimming) (h display) (λ k. h (led k)) (λ i. h (key i)) (h switches) (h read_count) (h position))

pub returns-in-Control : goal.returns-in-Control
returns-in-Control c = rw c.in-Control.is (let h = c.at-in-Control.ensures in every _ (λ i k. h (cell i k)) (h address) (h data_mode) (h stepping) (h mode) (h dimming) (h display) (λ k. h (led k)) (λ i. h (key i)) (h switches) (h read_count) (h position))
