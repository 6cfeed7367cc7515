-- What `rescue` says of a skipped stretch (docs/RULES.md, 'Rescue').
pub mod Lines
