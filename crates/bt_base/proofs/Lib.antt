mod LookUp
mod Faults
mod Life
mod DiskSteps
mod Telling
