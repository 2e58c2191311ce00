mod Ready
mod Says
mod Lines
mod Kept
