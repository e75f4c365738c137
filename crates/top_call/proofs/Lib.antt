mod WordsCases
mod UsageAndRefusalCases
mod Outputs
