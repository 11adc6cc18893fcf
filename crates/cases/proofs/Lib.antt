mod Tests
mod Makes
mod Tables
mod Sheets
mod WorkedCases
mod RailSets
